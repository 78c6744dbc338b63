use Rattle.std.proofs.Common.{◌≡◌, ◌<◌, ℕ, List, [], length, get_or, ap, refl, ◌∙◌, arith}
use Rattle.std.proofs.lemmas.List.{get_or_default}
use Rattle.ctrl_handlers.specs.Plan.{PlanData}
use Rattle.ctrl_handlers.specs.Visible.{shown_below}
use Rattle.ctrl_handlers.proofs.ShownLemmas.{length-shown_below, shown_at, visible_known}
use Rattle.ctrl_handlers.proofs.plan.Plan.shown.Goals as goal

-- each handler has a list
pub index-list-requires : goal.index-list-requires
index-list-requires g c =
    let plan = c.args.self.now in
    let are = c.self.invariant.2 ∙ ap (λ (p : PlanData). shown_below p (length p.handlers)) c.self.view_is in
    let within : c.args.handler < length plan.handlers = c.if-not-has_handler.ensures.there.0 refl in
    omega (arith, within, ap length are, length-shown_below plan (length plan.handlers), c.self.inside.shown.ok.0)

-- which is what the handler shows
pub returns-clause-shown : goal.returns-clause-shown
returns-clause-shown g c =
    let plan = c.args.self.now in
    let lists = c.self.inside.shown.items in
    let are : lists ≡ shown_below plan (length plan.handlers) = c.self.invariant.2 ∙ ap (λ (p : PlanData). shown_below p (length p.handlers)) c.self.view_is in
    let within : c.args.handler < length plan.handlers = c.if-not-has_handler.ensures.there.0 refl in
    let place : c.args.handler < length lists = omega (arith, within, ap length are, length-shown_below plan (length plan.handlers)) in
    c.as_slice.ensures ∙ c.index-list.ensures ∙ get_or_default lists c.args.handler c.index-list.result.now [] place
    ∙ ap (λ (ls : List (List ℕ)). get_or ls c.args.handler []) are ∙ shown_at plan (length plan.handlers) c.args.handler within

pub returns-clause-known : goal.returns-clause-known
returns-clause-known g c = rw (returns-clause-shown g c) (visible_known c.args.self.now c.args.handler c.has_handler.ensures.plan)
