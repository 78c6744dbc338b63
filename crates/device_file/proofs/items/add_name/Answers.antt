-- A refused name stops the reading with its fault.
use Rattle.ctrl_handlers.specs.Builder.{name_refusal}
use Rattle.ctrl_handlers.specs.Plan.{with_item}
use Rattle.menu_items.specs.declared.item.MenuItem.TheVariants.{Name}
use Rattle.device_file.specs.Items.{name_problem}
use Rattle.device_file.specs.Refusals.{item_fault}
use Rattle.device_file.proofs.Refused.{refusal_stops}
use Rattle.device_file.proofs.items.add_name.Goals as goal

pub returns-in-Err-clause-err : goal.returns-in-Err-clause-err
returns-in-Err-clause-err c =
    refusal_stops _ (item_fault c.args.index (name_problem c.args.ctrl.kind c.args.ctrl c.args.index)) (name_refusal c.args.builder.now c.args.control c.args.index c.args.name.now)
    (with_item c.args.builder.now c.args.control c.args.index (Name c.args.name.now)) c.in-Err.fault c.refused_name.result c.in-Err.ensures.err.0 c.refused_name.ensures
