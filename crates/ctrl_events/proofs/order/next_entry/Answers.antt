use Rattle.std.proofs.Common.{arith, add-one, suc, ◌≡◌, ◌∙◌, ◌≤◌, ◌<◌, ◌⊎◌, inl, inr, ℕ, None, Some, true, sym, subst, length, slice_get}
use Rattle.std.proofs.lemmas.Bool.{cases_eq}
use Rattle.ctrl_events.specs.Order.{is_empty_entry}
use Rattle.ctrl_events.proofs.OrderLemmas.{passed_over, empty_there, none_beyond}
use Rattle.ctrl_events.proofs.order.next_entry.Goals as goal

pub loop-place-preserved : goal.loop-place-preserved
loop-place-preserved c =
    let empty : is_empty_entry (slice_get c.args.log.now c.loop-place.place) ≡ true = sym c.is_empty_at.ensures ∙ c.if-not-is_empty_at.false in
    let here : slice_get c.args.log.now c.loop-place.place ≡ Some None = empty_there (slice_get c.args.log.now c.loop-place.place) empty in
    let each : (i : ℕ) → c.args.from ≤ i → i < suc c.loop-place.place → (i ≡ c.loop-place.place) ⊎ (i ≡ c.loop-place.place → ⊥) → slice_get c.args.log.now i ≡ Some None = λ i above below which. elim which [
      | inl same ↦ subst (λ j. slice_get c.args.log.now j ≡ Some None) (sym same) here
      | inr other ↦ c.loop-place.invariant.passed i above (omega (arith, below, other))
    ] in
    rw add-one (record {
      rest = passed_over c.args.log.now c.loop-place.place empty ∙ c.loop-place.invariant.rest;
      passed = λ i above below. each i above below (cases_eq i c.loop-place.place);
    })

pub returns-clause-found : goal.returns-clause-found
returns-clause-found c = none_beyond c.args.log.now (length c.args.log.now) (omega arith)
