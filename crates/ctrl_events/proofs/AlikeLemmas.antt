-- What a walk over the events of two orders at once tells of them.
use Rattle.std.proofs.Common.{arith, ◌≡◌, ◌==◌, ◌∙◌, ◌<◌, ◌≤◌, ◌⊎◌, inl, inr, ℕ, zero, suc, Bool, false, List, [], ◌∷◌, drop, length, slice_get, Option, None, Some, true≢false, refl, sym, ap, subst}
use Rattle.std.specs.Prelude.{◌↔◌, leb, IsTrue}
use Rattle.std.specs.Option.{option_map}
use Rattle.std.proofs.lemmas.Bool.{cases_lt, le-leb, leb-true, eqb-true, eq-eqb}
use Rattle.std.proofs.lemmas.List.{nil_from_length}
use Rattle.std.proofs.lemmas.Option.{slice_get_past}
use Rattle.ctrl_events.specs.declared.event.Latest.{Latest}
use Rattle.ctrl_events.specs.Events.{Waiting}
use Rattle.ctrl_events.specs.Order.{logged, is_empty_entry, entry_number}
use Rattle.ctrl_events.specs.Queue.{event_to, events_to}
use Rattle.ctrl_events.proofs.OrderLemmas.{nothing_at, number_there}

-- an entry that has a number is the first of what is left
pub left_at : (log : List (Option ℕ)) (i c : ℕ) → slice_get log i ≡ Some (Some c) → logged (drop i log) ≡ c ∷ logged (drop (suc i) log)
left_at [] i c there = cc
left_at (None ∷ log) zero c there = cc
left_at (Some d ∷ log) zero c there = let same : d ≡ c = cc in ap (λ (n : ℕ). n ∷ logged log) same
left_at (e ∷ log) (suc i) c there = left_at log i c there

missed : (log : List (Option ℕ)) (p : ℕ) → p < length log → slice_get log p ≡ None → ⊥
missed [] p within none = absurd (omega (arith, within))
missed (e ∷ log) zero within none = absurd (full none)
  where
    full : Some e ≡ None → ⊥
    full h = cc
missed (e ∷ log) (suc p) within none = missed log p (omega (arith, within)) none

heads : (w v : Waiting) (ws vs : List Waiting) → w ∷ ws ≡ v ∷ vs → w ≡ v
heads w v ws vs same = cc

tails : (w v : Waiting) (ws vs : List Waiting) → w ∷ ws ≡ v ∷ vs → ws ≡ vs
tails w v ws vs same = cc

-- one more event is the same
alike_more : (latest others_latest : List Latest) (log others : List (Option ℕ)) (i at p c : ℕ) → slice_get log i ≡ Some (Some c) → logged (drop p others) ≡ logged (drop at others)
    → Some (event_to latest c) ≡ option_map (event_to others_latest) (entry_number (slice_get others p))
    → (events_to latest (logged (drop i log)) ≡ events_to others_latest (logged (drop at others))) ↔ (events_to latest (logged (drop (suc i) log)) ≡ events_to others_latest (logged (drop (suc p) others)))
alike_more latest others_latest log others i at p c there rest same = by (entry_number (slice_get others p)) refl same
  where
    own : events_to latest (logged (drop i log)) ≡ event_to latest c ∷ events_to latest (logged (drop (suc i) log))
    own = ap (events_to latest) (left_at log i c there)

    by : (o : Option ℕ) → entry_number (slice_get others p) ≡ o → Some (event_to latest c) ≡ option_map (event_to others_latest) o
        → (events_to latest (logged (drop i log)) ≡ events_to others_latest (logged (drop at others))) ↔ (events_to latest (logged (drop (suc i) log)) ≡ events_to others_latest (logged (drop (suc p) others)))
    by None is same = cc
    by (Some d) is same =
        let head : event_to latest c ≡ event_to others_latest d = cc in
        let other : events_to others_latest (logged (drop at others)) ≡ event_to others_latest d ∷ events_to others_latest (logged (drop (suc p) others)) =
        ap (events_to others_latest) (sym rest ∙ left_at others p d (number_there (slice_get others p) d (sym is))) in (
          λ all. tails (event_to latest c) (event_to others_latest d) _ _ (sym own ∙ all ∙ other),
          λ further. own ∙ ap (λ ws. event_to latest c ∷ ws) further ∙ ap (λ w. w ∷ events_to others_latest (logged (drop (suc p) others))) head ∙ sym other,
        )

pub alike_next : (latest others_latest : List Latest) (log others : List (Option ℕ)) (i at p c j q : ℕ) → j ≡ suc i → q ≡ suc p → slice_get log i ≡ Some (Some c) → logged (drop p others) ≡ logged (drop at others)
    → Some (event_to latest c) ≡ option_map (event_to others_latest) (entry_number (slice_get others p))
    → (events_to latest (logged (drop i log)) ≡ events_to others_latest (logged (drop at others))) ↔ (events_to latest (logged (drop j log)) ≡ events_to others_latest (logged (drop q others)))
alike_next latest others_latest log others i at p c j q next passed there rest same =
    subst (λ m. (events_to latest (logged (drop i log)) ≡ events_to others_latest (logged (drop at others))) ↔ (events_to latest (logged (drop m log)) ≡ events_to others_latest (logged (drop q others)))) (sym next) (
    subst (λ m. (events_to latest (logged (drop i log)) ≡ events_to others_latest (logged (drop at others))) ↔ (events_to latest (logged (drop (suc i) log)) ≡ events_to others_latest (logged (drop m others)))) (sym passed) (
    alike_more latest others_latest log others i at p c there rest same
    ))

-- an event that is another, or none
pub unlike : (latest others_latest : List Latest) (log others : List (Option ℕ)) (i at p c : ℕ) → slice_get log i ≡ Some (Some c) → logged (drop p others) ≡ logged (drop at others) → is_empty_entry (slice_get others p) ≡ false
    → (Some (event_to latest c) ≡ option_map (event_to others_latest) (entry_number (slice_get others p)) → ⊥) → events_to latest (logged (drop i log)) ≡ events_to others_latest (logged (drop at others)) → ⊥
unlike latest others_latest log others i at p c there rest found apart all = by (entry_number (slice_get others p)) refl apart
  where
    own : events_to latest (logged (drop i log)) ≡ event_to latest c ∷ events_to latest (logged (drop (suc i) log))
    own = ap (events_to latest) (left_at log i c there)

    clash : (w : Waiting) (ws : List Waiting) → w ∷ ws ≡ [] → ⊥
    clash w ws same = cc

    by : (o : Option ℕ) → entry_number (slice_get others p) ≡ o → (Some (event_to latest c) ≡ option_map (event_to others_latest) o → ⊥) → ⊥
    by None is apart = clash (event_to latest c) (events_to latest (logged (drop (suc i) log))) (sym own ∙ all ∙ ap (events_to others_latest) (sym rest ∙ nothing_at others p (sym is) found))
    by (Some d) is apart = apart (ap (λ (w : Waiting). Some w) (heads (event_to latest c) (event_to others_latest d) _ _ (sym own ∙ all ∙ ap (events_to others_latest) (sym rest ∙ left_at others p d (number_there (slice_get others p) d (sym is))))))

-- nothing is left of the one, and nothing of the other where its next entry is beyond all
pub all_alike : (latest others_latest : List Latest) (others : List (Option ℕ)) (at p : ℕ) → logged (drop p others) ≡ logged (drop at others) → is_empty_entry (slice_get others p) ≡ false
    → IsTrue (leb (length others) p) ↔ (events_to latest [] ≡ events_to others_latest (logged (drop at others)))
all_alike latest others_latest others at p rest found = by (cases_lt p (length others))
  where
    clash : (d : ℕ) (ds : List ℕ) → [] ≡ events_to others_latest (d ∷ ds) → ⊥
    clash d ds same = cc

    further : (e : Option (Option ℕ)) → slice_get others p ≡ e → is_empty_entry e ≡ false → p < length others → [] ≡ events_to others_latest (logged (drop at others)) → ⊥
    further None is full within same = absurd (gone is)
      where
        gone : slice_get others p ≡ None → ⊥
        gone none = missed others p within none
    further (Some None) is full within same = true≢false full
    further (Some (Some d)) is full within same = clash d (logged (drop (suc p) others)) (same ∙ ap (events_to others_latest) (sym rest ∙ left_at others p d is))

    by : (p < length others) ⊎ (length others ≤ p) → IsTrue (leb (length others) p) ↔ (events_to latest [] ≡ events_to others_latest (logged (drop at others)))
    by (inl within) = (λ beyond. absurd (omega (arith, within, leb-true (length others) p beyond)), λ same. absurd (further (slice_get others p) refl found within same))
    by (inr beyond) = (λ h. ap (events_to others_latest) (sym (nothing_at others p (sym (ap entry_number (slice_get_past others p beyond))) found) ∙ rest), λ same. le-leb (length others) p beyond)

-- the same of events that are given in other words
pub both_kept : (a b x y : List Waiting) (r : Bool) → a ≡ x → b ≡ y → IsTrue r ↔ (a ≡ b) → IsTrue r ↔ (x ≡ y)
both_kept a b x y r own other alike = (λ is. sym own ∙ alike.0 is ∙ other, λ same. alike.1 (own ∙ same ∙ sym other))

-- where none waits for the one, none may for the other
pub none_own : (x y : List Waiting) (n : ℕ) → [] ≡ x → n ≡ length y → IsTrue (n == 0) ↔ (x ≡ y)
none_own x y n none many = (λ is. sym none ∙ sym (nil_from_length y (sym many ∙ eqb-true n 0 is)), λ same. eq-eqb n 0 (many ∙ ap length (sym same) ∙ ap length (sym none)))

pub none_other : (x y : List Waiting) (n : ℕ) → [] ≡ y → n ≡ length x → IsTrue (n == 0) ↔ (x ≡ y)
none_other x y n none many = (λ is. nil_from_length x (sym many ∙ eqb-true n 0 is) ∙ none, λ same. eq-eqb n 0 (many ∙ ap length same ∙ ap length (sym none)))
