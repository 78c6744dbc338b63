use Rattle.std.proofs.Common.{◌≡◌, ℕ, List, [], Some, refl, sym, ap, ◌∙◌, subst}
use Rattle.ctrl_handlers.specs.Plan.{PlanData, IsPlan}
use Rattle.ctrl_handlers.specs.Visible.{visible, first_with_id, IsIndexOf}
use Rattle.ctrl_handlers.proofs.IndexLemmas.{index_at, no_index, shown_known}
use Rattle.ctrl_handlers.proofs.plan.Plan.find.Goals as goal

-- a handler without an index shows nothing
pub returns-in_default-clause-found : goal.returns-in_default-clause-found
returns-in_default-clause-found g c =
    let tables = c.self.inside in
    let none = no_index tables.outline tables.shown.items c.deref.result.now c.args.handler c.self.invariant.2 (rw c.deref.ensures.value c.self.invariant.3) c.in_default.ensures.lookup.3 in
    (ap (λ (ns : List ℕ). first_with_id c.args.self.now.controls ns c.args.id) (subst (λ (p : PlanData). visible p c.args.handler ≡ []) c.self.view_is none), refl)

-- under the id stands the control that the handler shows
pub returns-in-Some-find-clause-found : goal.returns-in-Some-find-clause-found
returns-in-Some-find-clause-found g c =
    let tables = c.self.inside in
    let index = index_at tables.outline tables.shown.items c.deref.result.now c.args.handler c.in-Some.index.now c.self.invariant.2 (rw c.deref.ensures.value c.self.invariant.3) c.in-Some.ensures.lookup.3.0 c.in-Some.ensures.lookup.1 in
    sym (c.in-Some-find.ensures ∙ subst (λ (p : PlanData). IsIndexOf p.controls (visible p c.args.handler) c.in-Some.index.now) c.self.view_is index c.args.id.0)

pub returns-in-Some-find-clause-known : goal.returns-in-Some-find-clause-known
returns-in-Some-find-clause-known g c =
    shown_known c.args.self.now c.args.handler c.args.id (Some c.in-Some-find.control) (subst IsPlan c.self.view_is c.self.invariant.0.is_plan)
    (sym (returns-in-Some-find-clause-found g c))

-- or none does
pub returns-in-None-clause-found : goal.returns-in-None-clause-found
returns-in-None-clause-found g c =
    let tables = c.self.inside in
    let index = index_at tables.outline tables.shown.items c.deref.result.now c.args.handler c.in-Some.index.now c.self.invariant.2 (rw c.deref.ensures.value c.self.invariant.3) c.in-Some.ensures.lookup.3.0 c.in-Some.ensures.lookup.1 in
    (sym (c.in-None.ensures ∙ subst (λ (p : PlanData). IsIndexOf p.controls (visible p c.args.handler) c.in-Some.index.now) c.self.view_is index c.args.id.0), refl)
