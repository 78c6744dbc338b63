-- A refused number stops the reading with its fault.
use Rattle.ctrl_handlers.specs.Builder.{number_refusal}
use Rattle.ctrl_handlers.specs.Plan.{with_item}
use Rattle.menu_items.specs.declared.item.MenuItem.TheVariants.{Number}
use Rattle.device_file.specs.Items.{number_problem}
use Rattle.device_file.specs.Refusals.{item_fault}
use Rattle.device_file.proofs.Refused.{refusal_stops}
use Rattle.device_file.proofs.items.add_number.Goals as goal

pub returns-in-Err-clause-err : goal.returns-in-Err-clause-err
returns-in-Err-clause-err c =
    refusal_stops _ (item_fault c.args.index (number_problem c.args.ctrl.kind c.args.ctrl c.args.index)) (number_refusal c.args.builder.now c.args.control c.args.index)
    (with_item c.args.builder.now c.args.control c.args.index (Number c.args.number)) c.in-Err.fault c.refused_number.result c.in-Err.ensures.err.0 c.refused_number.ensures
