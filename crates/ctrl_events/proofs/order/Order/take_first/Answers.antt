use Rattle.std.proofs.Common.{arith, add-one, ◌≡◌, ◌∙◌, ◌≤◌, ◌<◌, ℕ, [], List, Option, None, Some, drop, slice_get, sym, ap, subst}
use Rattle.ctrl_events.specs.Order.{OrderData, logged, entry_number, is_empty_entry}
use Rattle.ctrl_events.proofs.OrderLemmas.{placed_emptied, IsFirstTaken, first_taken, none_first, order_is}
use Rattle.ctrl_events.proofs.order.Order.take_first.Goals as goal

pub pack_where_sparse-self-inside-requires-clause-placed : goal.pack_where_sparse-self-inside-requires-clause-placed
pack_where_sparse-self-inside-requires-clause-placed c = placed_emptied c.self.inside.log.items c.self.inside.places.items c.next_entry-place.result c.self.invariant.placed

pub pack_where_sparse-self-inside-requires-clause-passed : goal.pack_where_sparse-self-inside-requires-clause-passed
pack_where_sparse-self-inside-requires-clause-passed c =
    let taken : IsFirstTaken c.self.inside.log.items c.next_entry-place.result c.in-Some.number =
    first_taken c.self.inside.log.items c.self.inside.first c.next_entry-place.result c.in-Some.number c.self.invariant.passed
    (subst (λ (es : List (Option ℕ)). (i : ℕ) → c.self.inside.first ≤ i → i < c.next_entry-place.result → slice_get es i ≡ Some None) c.as_slice.ensures.value c.next_entry-place.ensures.passed)
    (sym c.in-Some.is ∙ c.number_at.ensures ∙ ap (λ es. entry_number (slice_get es c.next_entry-place.result)) c.as_slice-2.ensures.value) in
    rw add-one taken.passed

pub pack_where_sparse-self-inside-requires-clause-counted : goal.pack_where_sparse-self-inside-requires-clause-counted
pack_where_sparse-self-inside-requires-clause-counted c =
    let taken : IsFirstTaken c.self.inside.log.items c.next_entry-place.result c.in-Some.number =
    first_taken c.self.inside.log.items c.self.inside.first c.next_entry-place.result c.in-Some.number c.self.invariant.passed
    (subst (λ (es : List (Option ℕ)). (i : ℕ) → c.self.inside.first ≤ i → i < c.next_entry-place.result → slice_get es i ≡ Some None) c.as_slice.ensures.value c.next_entry-place.ensures.passed)
    (sym c.in-Some.is ∙ c.number_at.ensures ∙ ap (λ es. entry_number (slice_get es c.next_entry-place.result)) c.as_slice-2.ensures.value) in
    omega (arith, taken.fewer, c.self.invariant.counted)

pub returns-in-Some-clause-answer : goal.returns-in-Some-clause-answer
returns-in-Some-clause-answer c =
    let taken : IsFirstTaken c.self.inside.log.items c.next_entry-place.result c.in-Some.number =
    first_taken c.self.inside.log.items c.self.inside.first c.next_entry-place.result c.in-Some.number c.self.invariant.passed
    (subst (λ (es : List (Option ℕ)). (i : ℕ) → c.self.inside.first ≤ i → i < c.next_entry-place.result → slice_get es i ≡ Some None) c.as_slice.ensures.value c.next_entry-place.ensures.passed)
    (sym c.in-Some.is ∙ c.number_at.ensures ∙ ap (λ es. entry_number (slice_get es c.next_entry-place.result)) c.as_slice-2.ensures.value) in
    sym (ap (λ ns. slice_get ns 0) taken.split) ∙ ap (λ (o : OrderData). slice_get o.members 0) c.self.view_is

pub returns-in-Some-clause-left : goal.returns-in-Some-clause-left
returns-in-Some-clause-left c =
    let taken : IsFirstTaken c.self.inside.log.items c.next_entry-place.result c.in-Some.number =
    first_taken c.self.inside.log.items c.self.inside.first c.next_entry-place.result c.in-Some.number c.self.invariant.passed
    (subst (λ (es : List (Option ℕ)). (i : ℕ) → c.self.inside.first ≤ i → i < c.next_entry-place.result → slice_get es i ≡ Some None) c.as_slice.ensures.value c.next_entry-place.ensures.passed)
    (sym c.in-Some.is ∙ c.number_at.ensures ∙ ap (λ es. entry_number (slice_get es c.next_entry-place.result)) c.as_slice-2.ensures.value) in
    order_is _ _ _ _ _ _
    (c.pack_where_sparse-self-inside.ensures.members ∙ sym (ap (λ ns. drop 1 ns) taken.split) ∙ ap (λ (o : OrderData). drop 1 o.members) c.self.view_is)
    (c.pack_where_sparse-self-inside.ensures.bound ∙ ap (λ (o : OrderData). o.bound) c.self.view_is)
    (c.pack_where_sparse-self-inside.ensures.room ∙ ap (λ (o : OrderData). o.room) c.self.view_is)

pub returns-in-None-clause-answer : goal.returns-in-None-clause-answer
returns-in-None-clause-answer c =
    let none : logged c.self.inside.log.items ≡ [] =
    none_first c.self.inside.log.items c.self.inside.first c.next_entry-place.result c.self.invariant.passed
    (subst (λ (es : List (Option ℕ)). logged (drop c.next_entry-place.result es) ≡ logged (drop c.self.inside.first es)) c.as_slice.ensures.value c.next_entry-place.ensures.rest)
    (sym (ap (λ es. is_empty_entry (slice_get es c.next_entry-place.result)) c.as_slice.ensures.value) ∙ c.next_entry-place.ensures.found)
    (sym c.in-None.is ∙ c.number_at.ensures ∙ ap (λ es. entry_number (slice_get es c.next_entry-place.result)) c.as_slice-2.ensures.value) in
    sym (ap (λ ns. slice_get ns 0) none) ∙ ap (λ (o : OrderData). slice_get o.members 0) c.self.view_is

pub returns-in-None-clause-left : goal.returns-in-None-clause-left
returns-in-None-clause-left c =
    let none : logged c.self.inside.log.items ≡ [] =
    none_first c.self.inside.log.items c.self.inside.first c.next_entry-place.result c.self.invariant.passed
    (subst (λ (es : List (Option ℕ)). logged (drop c.next_entry-place.result es) ≡ logged (drop c.self.inside.first es)) c.as_slice.ensures.value c.next_entry-place.ensures.rest)
    (sym (ap (λ es. is_empty_entry (slice_get es c.next_entry-place.result)) c.as_slice.ensures.value) ∙ c.next_entry-place.ensures.found)
    (sym c.in-None.is ∙ c.number_at.ensures ∙ ap (λ es. entry_number (slice_get es c.next_entry-place.result)) c.as_slice-2.ensures.value) in
    sym c.self.view_is ∙ order_is _ _ _ _ _ _
    (none ∙ sym (ap (λ ns. drop 1 ns) none) ∙ ap (λ (o : OrderData). drop 1 o.members) c.self.view_is)
    (ap (λ (o : OrderData). o.bound) c.self.view_is)
    (ap (λ (o : OrderData). o.room) c.self.view_is)
