use Rattle.std.proofs.Common.{◌≡◌, None, w64, sym, ◌∙◌, subst}
use Rattle.std.proofs.Math.Facts.{to_z-of_z}
use Rattle.ctrl_handlers.specs.Plan.{PlanData}
use Rattle.ctrl_handlers.specs.Builder.{number_refusal}
use Rattle.ctrl_handlers.proofs.BuilderLemmas.{may_number, set_ok, set_err}
use Rattle.ctrl_handlers.proofs.builder.PlanBuilder.menu_number.Goals as goal

-- the menu is there and takes the number
pub set_item-requires : goal.set_item-requires
set_item-requires g c =
    let passes = subst (λ (p : PlanData). number_refusal p c.args.control c.args.index ≡ None) c.self.view_is (sym c.number_refusal.ensures ∙ c.in_default.is) in
    let may = may_number c.args.self.now c.args.control c.args.index passes in
    record { known = may.0; takes = may.1 }

pub returns-clause-ok : goal.returns-clause-ok
returns-clause-ok g c =
    let passes = subst (λ (p : PlanData). number_refusal p c.args.control c.args.index ≡ None) c.self.view_is (sym c.number_refusal.ensures ∙ c.in_default.is) in
    set_ok c.args.self.now _ c.args.control c.args.index _ _ c.set_item.result passes (rw (to_z-of_z {w = w64} {z = c.args.number} c.ranges.number) at c.set_item.ensures)

pub returns-clause-err : goal.returns-clause-err
returns-clause-err g c =
    let passes = subst (λ (p : PlanData). number_refusal p c.args.control c.args.index ≡ None) c.self.view_is (sym c.number_refusal.ensures ∙ c.in_default.is) in
    set_err c.args.self.now _ c.args.control c.args.index _ _ c.set_item.result passes (rw (to_z-of_z {w = w64} {z = c.args.number} c.ranges.number) at c.set_item.ensures)
