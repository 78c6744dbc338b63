use Rattle.std.proofs.Common.{◌<◌, length, ap, ◌∙◌, sym, subst}
use Rattle.std.specs.List.{All}
use Rattle.std.proofs.lemmas.List.{get_or_default}
use Rattle.ctrl_handlers.specs.HandlerData.{HandlerData}
use Rattle.ctrl_handlers.specs.Plan.{PlanData, no_handler}
use Rattle.ctrl_handlers.proofs.PlanLemmas.{is_plan_handler, may_add}
use Rattle.ctrl_handlers.proofs.outline.Outline.add_to.Goals as goal

-- a handler that adds one with a smaller number
pub invariant_of-self : goal.invariant_of-self
invariant_of-self c =
    let handlers = c.self.inside.handlers.items in
    let may = may_add c.args.self.now c.args.to c.args.added c.requires in
    let there : c.args.to < length handlers = rw (ap (λ (p : PlanData). p.handlers) c.self.view_is) may.0 in
    let old = c.index_mut.ensures.value ∙ get_or_default handlers c.args.to _ no_handler there in
    is_plan_handler _ c.args.to c.add_handler.new.self c.self.invariant there
    (c.add_handler.ensures.own ∙ ap (λ (h : HandlerData). h.own) old)
    (c.add_handler.ensures.before c.args.to (subst (λ (h : HandlerData). All (λ a. a < c.args.to) h.added) (sym old) (c.self.invariant.added_before c.args.to)) may.1)
