use Rattle.std.proofs.Common.{◌≡◌, ◌<◌, ◌∷◌, ◌++◌, ℕ, [], List, Result, Ok, Err, OnErr, length, get_or, slice_set, refl, ap, ◌∙◌, arith}
use Rattle.std.proofs.lemmas.List.{get_or_default, set-get_or}
use Rattle.ctrl_settle.specs.Control.{Control}
use Rattle.ctrl_handlers.specs.HandlerData.{HandlerData}
use Rattle.ctrl_handlers.specs.Plan.{PlanData, no_handler, owning}
use Rattle.ctrl_handlers.proofs.PlanLemmas.{is_plan_control_as}
use Rattle.ctrl_handlers.proofs.outline.Outline.add_control.Goals as goal

-- a handler that stays as it was
put_back : (handlers : List HandlerData) (h : ℕ) (x y : HandlerData) → x ≡ y → y ≡ get_or handlers h y → slice_set handlers h x ≡ handlers
put_back handlers h x y same is = ap (slice_set handlers h) (same ∙ is) ∙ set-get_or handlers h y

on_err : {T E P : Type 0} (r : Result T E) → P → OnErr r P
on_err (Ok done) is = tt
on_err (Err e) is = is

pub index_mut-requires : goal.index_mut-requires
index_mut-requires c =
    let there : c.args.handler < length c.self.inside.handlers.items = rw (ap (λ (p : PlanData). p.handlers) c.self.view_is) c.requires.known in
    omega (arith, there, c.self.inside.handlers.ok.0)

pub invariant_of-self-in_err-own_control : goal.invariant_of-self-in_err-own_control
invariant_of-self-in_err-own_control c =
    rw (c.reserve.ensures.items, put_back c.self.inside.handlers.items c.args.handler c.own_control.new.self c.index_mut.result.now c.in_err-own_control.ensures.err c.index_mut.ensures.value)
    c.self.invariant

pub returns-in_err-own_control-clause-err : goal.returns-in_err-own_control-clause-err
returns-in_err-own_control-clause-err c =
    on_err c.from_residual-in_err-own_control.result
    (rw (c.reserve.ensures.items, put_back c.self.inside.handlers.items c.args.handler c.own_control.new.self c.index_mut.result.now c.in_err-own_control.ensures.err c.index_mut.ensures.value)
    c.self.view_is)

-- one more control, whose number is new
pub invariant_of-self-2 : goal.invariant_of-self-2
invariant_of-self-2 c =
    let plan = c.self.inside in
    let there : c.args.handler < length plan.handlers.items = rw (ap (λ (p : PlanData). p.handlers) c.self.view_is) c.requires.known in
    let number : c.len-number.result ≡ length plan.controls.items = omega (arith, c.len-number.ensures, plan.controls.ok.0) in
    is_plan_control_as _ c.args.handler c.args.ctrl _ _ c.self.invariant there
    (rw (← c.self.view_is) at c.requires.room) c.requires.well_formed (rw (← c.self.view_is) at c.requires.differs)
    (c.push_reserved.ensures.items ∙ ap (λ (xs : List Control). xs ++ c.args.ctrl ∷ []) c.reserve.ensures.items)
    (c.in_ok-own_control.ensures.ok ∙ ap (λ (h : HandlerData). owning h c.len-number.result) (c.index_mut.ensures.value ∙ get_or_default plan.handlers.items c.args.handler _ no_handler there)
    ∙ ap (owning (get_or plan.handlers.items c.args.handler no_handler)) number)

pub returns-clause-ok : goal.returns-clause-ok
returns-clause-ok c =
    let plan = c.self.inside in
    let there : c.args.handler < length plan.handlers.items = rw (ap (λ (p : PlanData). p.handlers) c.self.view_is) c.requires.known in
    let number : c.len-number.result ≡ length plan.controls.items = omega (arith, c.len-number.ensures, plan.controls.ok.0) in
    let more = c.push_reserved.ensures.items ∙ ap (λ (xs : List Control). xs ++ c.args.ctrl ∷ []) c.reserve.ensures.items in
    let owns = c.in_ok-own_control.ensures.ok ∙ ap (λ (h : HandlerData). owning h c.len-number.result) (c.index_mut.ensures.value ∙ get_or_default plan.handlers.items c.args.handler _ no_handler there)
    ∙ ap (owning (get_or plan.handlers.items c.args.handler no_handler)) number in
    (number ∙ ap (λ (p : PlanData). length p.controls) c.self.view_is, rw (more, owns, ← c.self.view_is) refl)
