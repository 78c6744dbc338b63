use Rattle.std.proofs.Common.{rules, ◌∙◌, ap, set, take}
use Rattle.ctrl_calls.specs.Forms.{as_values}
use Rattle.ctrl_calls.proofs.FormLemmas.{set_seen}
use Rattle.ctrl_calls.proofs.row_values.RowValues.set_number.Goals as goal

-- a cell in use is a place of the row
pub returns-in-Numbers : goal.returns-in-Numbers
returns-in-Numbers c =
    ap (λ v. as_values (take c.in-Numbers.field-0 (set c.in-Numbers.cells c.args.index v))) (search rules)
    ∙ set_seen c.self.inside.form c.in-Numbers.cells c.in-Numbers.field-0 c.args.index c.args.number c.args.self.now c.in-Numbers.is c.self.invariant c.self.view_is c.requires
