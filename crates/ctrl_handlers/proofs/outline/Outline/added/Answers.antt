use Rattle.std.proofs.Common.{◌<◌, length, ap, ◌∙◌}
use Rattle.std.proofs.lemmas.List.{get_or_default}
use Rattle.ctrl_handlers.specs.HandlerData.{HandlerData}
use Rattle.ctrl_handlers.specs.Plan.{PlanData, no_handler}
use Rattle.ctrl_handlers.proofs.outline.Outline.added.Goals as goal

-- a handler adds only handlers with smaller numbers
pub returns-clause-before : goal.returns-clause-before
returns-clause-before c =
    let handlers = c.self.inside.handlers.items in
    let there : c.args.handler < length handlers = rw (ap (λ (p : PlanData). p.handlers) c.self.view_is) c.requires in
    let adds = c.added.ensures ∙ ap (λ (h : HandlerData). h.added) (c.index-handler.ensures ∙ get_or_default handlers c.args.handler c.index-handler.result.now no_handler there) in
    rw adds (c.self.invariant.added_before c.args.handler)
