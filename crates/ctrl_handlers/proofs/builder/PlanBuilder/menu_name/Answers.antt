use Rattle.std.proofs.Common.{◌≡◌, None, sym, ◌∙◌, subst}
use Rattle.ctrl_handlers.specs.Plan.{PlanData}
use Rattle.ctrl_handlers.specs.Builder.{name_refusal}
use Rattle.ctrl_handlers.proofs.BuilderLemmas.{may_name, set_ok, set_err}
use Rattle.ctrl_handlers.proofs.builder.PlanBuilder.menu_name.Goals as goal

-- the menu is there and takes the name
pub set_item-requires : goal.set_item-requires
set_item-requires g c =
    let passes = subst (λ (p : PlanData). name_refusal p c.args.control c.args.index c.args.name.now ≡ None) c.self.view_is (sym c.name_refusal.ensures ∙ c.in_default.is) in
    let may = may_name c.args.self.now c.args.control c.args.index c.args.name.now passes in
    record { known = may.0; takes = may.1 }

pub returns-in-Ok-clause-ok : goal.returns-in-Ok-clause-ok
returns-in-Ok-clause-ok g c =
    let passes = subst (λ (p : PlanData). name_refusal p c.args.control c.args.index c.args.name.now ≡ None) c.self.view_is (sym c.name_refusal.ensures ∙ c.in_default.is) in
    set_ok c.args.self.now _ c.args.control c.args.index _ _ c.set_item.result passes (rw c.in-Ok.ensures at c.set_item.ensures)

pub returns-in-Ok-clause-err : goal.returns-in-Ok-clause-err
returns-in-Ok-clause-err g c =
    let passes = subst (λ (p : PlanData). name_refusal p c.args.control c.args.index c.args.name.now ≡ None) c.self.view_is (sym c.name_refusal.ensures ∙ c.in_default.is) in
    set_err c.args.self.now _ c.args.control c.args.index _ _ c.set_item.result passes (rw c.in-Ok.ensures at c.set_item.ensures)
