use Rattle.std.proofs.Common.{◌<◌, length, ap, ◌∙◌}
use Rattle.std.proofs.lemmas.List.{get_or_default}
use Rattle.ctrl_handlers.specs.HandlerData.{HandlerData}
use Rattle.ctrl_handlers.specs.Plan.{PlanData, no_handler}
use Rattle.ctrl_handlers.proofs.outline.Outline.own.Goals as goal

-- a handler's own controls are controls of the plan
pub returns-clause-known : goal.returns-clause-known
returns-clause-known c =
    let handlers = c.self.inside.handlers.items in
    let there : c.args.handler < length handlers = rw (ap (λ (p : PlanData). p.handlers) c.self.view_is) c.requires in
    let shown = c.own.ensures ∙ ap (λ (h : HandlerData). h.own) (c.index-handler.ensures ∙ get_or_default handlers c.args.handler c.index-handler.result.now no_handler there) in
    rw (shown, ← c.self.view_is) (c.self.invariant.own_known c.args.handler)
