-- What two clients have left in the steps of a desk that was closed with their seats.
use Rattle.std.proofs.Common.{◌≡◌, ℕ, List, [], ◌∷◌, All, Option, map, length, ◌++◌, sym, ap, ◌∙◌, subst, arith}
use Rattle.std.proofs.lemmas.List.Elements.{All-head, All-tail}
use Rattle.history.specs.declared.entry.Entry.{Entry}
use Rattle.history.specs.Past.{own}
use Rattle.history.specs.Prefix.{IsPrefix}
use Rattle.turn_desk.specs.Views.{SeatView, IsWhole, times, once_below}
use Rattle.turn_desk.specs.Runs.{AreMade, accepted, HasRun, IsEntered, HasServed}
use Rattle.turn_desk.proofs.Runs.{run_entered}
use Rattle.std.proofs.lemmas.Bool.Decides.{nat_tests}

other_number : (n : ℕ) → times 1 (0 ∷ n ∷ []) ≡ once_below 1 2 → n ≡ 1
other_number n e = grind (arith, nat_tests)

module _ {P S Ask Answer : Type 0} (is_legal : P → List (Entry S) → Type 0) (answers : P → List (Entry S) → Ask → Answer → Type 0) (taken : P → List (Entry S) → Ask → Answer → Option S) (plan : P)
    (a b : SeatView P S) (seats : List (SeatView P S)) (steps : List (Entry S)) (given : seats ≡ a ∷ b ∷ []) (w : IsWhole is_legal plan seats steps) where
  abbrev Seen : SeatView P S → Type 0
  Seen s = IsPrefix s.seen steps

  abbrev Own : SeatView P S → Type 0
  Own s = own s.number steps ≡ own s.number s.seen

  seen_of : All Seen (a ∷ b ∷ [])
  seen_of = subst (All Seen) given w.seen

  own_of : All Own (a ∷ b ∷ [])
  own_of = subst (All Own) given w.own

  pub first_entered : (s : SeatView P S) (said heard : List (Ask × Option Answer)) → HasRun is_legal answers taken plan s said a heard → IsEntered is_legal answers taken plan s said heard steps
  first_entered s said heard r = run_entered is_legal answers taken plan s a said heard steps r (All-head Seen a (b ∷ []) seen_of) (All-head Own a (b ∷ []) own_of)

  pub second_entered : (s : SeatView P S) (said heard : List (Ask × Option Answer)) → HasRun is_legal answers taken plan s said b heard → IsEntered is_legal answers taken plan s said heard steps
  second_entered s said heard r = run_entered is_legal answers taken plan s b said heard steps r (All-head Seen b [] (All-tail Seen a (b ∷ []) seen_of)) (All-head Own b [] (All-tail Own a (b ∷ []) own_of))

  -- the numbers of both are those below 2, so the second's is 1 where the first's is 0
  pub second_number : a.number ≡ 0 → b.number ≡ 1
  second_number zeroth =
      let all : times 1 (map (λ s. s.number) seats) ≡ once_below 1 2 = w.once 1 ∙ ap (λ l. once_below 1 (length l)) given in
      let both : times 1 (map (λ s. s.number) (a ∷ b ∷ [])) ≡ once_below 1 2 = subst (λ l. times 1 (map (λ s. s.number) l) ≡ once_below 1 2) given all in
      other_number b.number (subst (λ n. times 1 (n ∷ b.number ∷ []) ≡ once_below 1 2) zeroth both)

  -- a run at a new seat
  pub served_of : (n : ℕ) (s : SeatView P S) (said heard : List (Ask × Option Answer)) → s.number ≡ n → s.seen ≡ [] → IsEntered is_legal answers taken plan s said heard steps → HasServed is_legal answers taken plan n said heard steps
  served_of n s said heard numbered new e = record {
    made = e.made;
    transcript = e.transcript;
    seen = e.seen;
    calls = subst (λ k. AreMade is_legal answers taken plan k [] e.made e.seen) numbered (subst (λ l. AreMade is_legal answers taken plan s.number l e.made e.seen) new e.calls);
    later = e.later;
    own = subst (λ k. own k steps ≡ accepted k e.made) numbered (subst (λ l. own s.number steps ≡ own s.number l ++ accepted s.number e.made) new e.own);
  }

  pub first_served : (s : SeatView P S) (said heard : List (Ask × Option Answer)) → s.number ≡ 0 → s.seen ≡ [] → HasRun is_legal answers taken plan s said a heard → HasServed is_legal answers taken plan 0 said heard steps
  first_served s said heard numbered new r = served_of 0 s said heard numbered new (first_entered s said heard r)

  pub second_served : (s : SeatView P S) (said heard : List (Ask × Option Answer)) → a.number ≡ 0 → s.seen ≡ [] → HasRun is_legal answers taken plan s said b heard → HasServed is_legal answers taken plan 1 said heard steps
  second_served s said heard zeroth new r = served_of 1 s said heard (sym r.stays.same.number ∙ second_number zeroth) new (second_entered s said heard r)
