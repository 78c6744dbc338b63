-- The seat that closes the desk takes in all others.
use Rattle.std.proofs.Common.{◌≡◌, ◌≢◌, ℕ, ◌<◌, ◌≤◌, suc, min, List, [], ◌∷◌, ◌++◌, All, length, map, Option, Some, None, refl, sym, ap, ◌∙◌, subst, append_assoc, append-nil, arith}
use Rattle.std.proofs.Math.Nat.{min-eq_left, min-eq_right}
use mathlib.Core.Logic.{dite}
use native.Mathlib.Decide.{ℕ_discrete}
use Rattle.std.proofs.lemmas.List.Elements.{All-nil, All-cons}
use Rattle.std.specs.Option.{option_to_list}
use Rattle.history.specs.declared.entry.Entry.{Entry}
use Rattle.history.specs.Past.{own}
use Rattle.history.specs.Prefix.{IsPrefix}
use Rattle.atomic_table.specs.Table.{Me}
use Rattle.turn_desk.specs.declared.rule.Account.{Account}
use Rattle.turn_desk.specs.declared.rule.Place.{Place}
use Rattle.turn_desk.specs.declared.rule.View.{View}
use Rattle.turn_desk.specs.declared.rule.TheConstants.{CLOSED}
use Rattle.turn_desk.specs.declared.seat.TheConstants.{MOST_SEATS}
use Rattle.turn_desk.specs.Views.{SeatView, times, once_below, IsWhole}
use Rattle.turn_desk.specs.Rule.{Each, IsAccount, numbers}
use Rattle.turn_desk.specs.Plays.{account, bare, gathered}
use Rattle.turn_desk.specs.Ending.{HasGathered, HasOpened, IsCloser, IsGathering, IsEnded}

module _ {A : Type 0} (P : A → Type 0) where
  pub All-each : (xs : List A) → Each P xs → All P xs
  All-each [] all = All-nil P
  All-each (x ∷ xs) all = All-cons P x xs all.0 (All-each xs all.1)

min-most : (found : ℕ) → found ≡ CLOSED → min found MOST_SEATS ≡ MOST_SEATS
min-most found mark = min-eq_right (omega arith)

module _ {P S : Type 0} where
  abbrev pub account_of : SeatView P S → Account S
  account_of s = account s.number s.seen

  pub gathers_none : (all : List (SeatView P S)) (v : View P S) → IsGathering all all v v
  gathers_none all v = record { taken = []; split = sym (append-nil all); gathered = record { accounts = refl; held = refl; closed = refl } }

  pub gathers_one : (all before left : List (SeatView P S)) (x : SeatView P S) (v w other : View P S) → before ≡ left ++ option_to_list (Some x) → other.accounts ≡ account_of x ∷ []
      → IsGathering all before v w → IsGathering all left v (gathered w other)
  gathers_one all before left x v w other popped its g = record {
    taken = x ∷ g.taken;
    split = g.split ∙ ap (λ l. l ++ g.taken) popped ∙ append_assoc left (x ∷ []) g.taken;
    gathered = record { accounts = (λ i. its i ++ g.gathered.accounts i); held = g.gathered.held; closed = g.gathered.closed };
  }

  pub gathers_all : (all : List (SeatView P S)) (v w : View P S) → IsGathering all [] v w → HasGathered all v w
  gathers_all all v w g = subst (λ l. HasGathered l v w) (sym g.split) g.gathered

  length_of : (seats : List (SeatView P S)) → length (map account_of seats ++ []) ≡ length seats
  length_of [] = refl
  length_of (s ∷ seats) = ap suc (length_of seats)

  pub opened_of : {T : Type 0} (plan : Option P) (m : Me (Place T) (View P S)) (found : ℕ) → (found ≡ CLOSED → m ≡ (bare plan None, [])) × (found ≢ CLOSED → (found ≤ MOST_SEATS) × (m ≡ (bare plan (Some found), []))) → HasOpened found plan m.0
  opened_of plan m found opens = record { marked = λ mark. ap (λ x. x.0) (opens.0 mark); counted = λ apart. ((opens.1 apart).0, ap (λ x. x.0) (opens.1 apart).1) }

  -- it has no account, and holds nothing
  pub opened_bare : (plan : Option P) (found : ℕ) (v : View P S) → HasOpened found plan v → (v.accounts ≡ []) × (v.holding ≡ None)
  opened_bare plan found v opened =
      dite (ℕ_discrete found CLOSED)
      (λ mark. let is = opened.marked mark in (ap (λ x. x.accounts) is, ap (λ x. x.holding) is))
      (λ apart. let is = (opened.counted apart).1 in (ap (λ x. x.accounts) is, ap (λ x. x.holding) is))

  -- with as many seats as were made it closes the desk
  pub closer_of : (plan : Option P) (found : ℕ) (seats : List (SeatView P S)) (v w : View P S) → HasOpened found plan v → HasGathered seats v w → min found MOST_SEATS ≤ length seats → IsCloser w
  closer_of plan found seats v w opened g enough =
      let all : w.accounts ≡ map account_of seats ++ [] = g.accounts ∙ ap (λ xs. map account_of seats ++ xs) (opened_bare plan found v opened).0 in
      record {
        made = min found MOST_SEATS;
        closes = λ apart.
            let below : found ≢ CLOSED = (λ mark. apart (min-most found mark)) in
            let counted = opened.counted below in
            g.closed ∙ ap (λ x. x.closing) counted.1 ∙ ap (λ n. Some n) (sym (min-eq_left counted.0));
        unheld = g.held ∙ (opened_bare plan found v opened).1;
        enough = subst (λ k. min found MOST_SEATS ≤ k) (sym (ap length all ∙ length_of seats)) enough;
      }

  numbers_of : (seats : List (SeatView P S)) → numbers (map account_of seats ++ []) ≡ map (λ s. s.number) seats
  numbers_of [] = refl
  numbers_of (s ∷ seats) = ap (λ l. s.number ∷ l) (numbers_of seats)

  each_seen : (steps : List (Entry S)) (seats : List (SeatView P S)) → Each (IsAccount steps) (map account_of seats ++ []) → Each (λ s. IsPrefix s.seen steps) seats
  each_seen steps [] all = tt
  each_seen steps (s ∷ seats) all = (all.0.prefix, each_seen steps seats all.1)

  each_own : (steps : List (Entry S)) (seats : List (SeatView P S)) → Each (IsAccount steps) (map account_of seats ++ []) → Each (λ s. own s.number steps ≡ own s.number s.seen) seats
  each_own steps [] all = tt
  each_own steps (s ∷ seats) all = (all.0.whole, each_own steps seats all.1)

  -- what the last seat knows of the object is what the desk promises of the seats
  pub whole : {T : Type 0} (is_legal : P → List (Entry S) → Type 0) (plan_of : T → P) (steps_of : T → List (Entry S)) (plan : P) (seats : List (SeatView P S)) (object : T)
      → IsEnded is_legal plan_of steps_of plan (map account_of seats ++ []) object → IsWhole is_legal plan seats (steps_of object)
  whole is_legal plan_of steps_of plan seats object e =
      let count = length_of seats in
      record {
        legal = e.legal;
        once = λ x. (λ i. times x (sym (numbers_of seats) i)) ∙ e.once x ∙ ap (once_below x) count;
        seen = All-each (λ s. IsPrefix s.seen (steps_of object)) seats (each_seen (steps_of object) seats e.whole);
        own = All-each (λ s. own s.number (steps_of object) ≡ own s.number s.seen) seats (each_own (steps_of object) seats e.whole);
        only = All-each (λ (y : Entry S). y.seat < length seats) (steps_of object) (subst (λ k. Each (λ (y : Entry S). y.seat < k) (steps_of object)) count e.seats);
      }
