use Rattle.std.proofs.Common.{◌≡◌, ℕ, List, [], Some, None, refl, sym, ap, subst}
use Rattle.ctrl_handlers.specs.Plan.{PlanData, ids_of}
use Rattle.ctrl_handlers.specs.Visible.{visible, least_above, IsIndexOf}
use Rattle.ctrl_handlers.proofs.IndexLemmas.{index_at, no_index, next_found, as_id}
use Rattle.ctrl_handlers.proofs.plan.Plan.next_id.Goals as goal

-- a handler without an index shows nothing
pub returns-in_default : goal.returns-in_default
returns-in_default g c =
    let tables = c.self.inside in
    let none = no_index tables.outline tables.shown.items c.deref.result.now c.args.handler c.self.invariant.2 (rw c.deref.ensures.value c.self.invariant.3) c.in_default.ensures.lookup.3 in
    let same = ap (λ (ns : List ℕ). as_id (least_above c.args.id.0 (ids_of c.args.self.now.controls ns))) (subst (λ (p : PlanData). visible p c.args.handler ≡ []) c.self.view_is none) in
    (same, refl)

-- the next id in the index is the least that the handler shows above
pub returns-in-Some-next : goal.returns-in-Some-next
returns-in-Some-next g c =
    let tables = c.self.inside in
    let index = index_at tables.outline tables.shown.items c.deref.result.now c.args.handler c.in-Some.ids.now c.self.invariant.2 (rw c.deref.ensures.value c.self.invariant.3) c.in-Some.ensures.lookup.3.0 c.in-Some.ensures.lookup.1 in
    let found = next_found c.args.self.now.controls (visible c.args.self.now c.args.handler) c.in-Some.ids.now c.args.id.0 (Some c.in-Some-next.next)
    (subst (λ (p : PlanData). IsIndexOf p.controls (visible p c.args.handler) c.in-Some.ids.now) c.self.view_is index) c.in-Some-next.ensures in
    ap as_id (sym found)

-- or there is none
pub returns-in-None : goal.returns-in-None
returns-in-None g c =
    let tables = c.self.inside in
    let index = index_at tables.outline tables.shown.items c.deref.result.now c.args.handler c.in-Some.ids.now c.self.invariant.2 (rw c.deref.ensures.value c.self.invariant.3) c.in-Some.ensures.lookup.3.0 c.in-Some.ensures.lookup.1 in
    let found = next_found c.args.self.now.controls (visible c.args.self.now c.args.handler) c.in-Some.ids.now c.args.id.0 None
    (subst (λ (p : PlanData). IsIndexOf p.controls (visible p c.args.handler) c.in-Some.ids.now) c.self.view_is index) c.in-None.ensures in
    (ap as_id (sym found), refl)
