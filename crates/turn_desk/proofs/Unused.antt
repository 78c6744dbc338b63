-- A desk that is closed with seats that have seen nothing leaves an object without steps.
use Rattle.std.proofs.Common.{◌≡◌, ◌≢◌, ℕ, ◌+◌, ◌<◌, Bool, true, false, if◌then◌else◌, cond, nat_eq, List, [], ◌∷◌, All, map, length, zero, suc, Result, Ok, Err, IfOk, IfErr, refl, sym, ap, ◌∙◌, subst, arith}
use Rattle.std.proofs.lemmas.Bool.Decides.{nat_tests}
use Rattle.std.proofs.lemmas.List.Elements.{All-head, All-tail}
use Rattle.history.specs.declared.entry.Entry.{Entry}
use Rattle.history.specs.Past.{own}
use Rattle.turn_desk.specs.Views.{SeatView, IsWhole, times, once_below}

once_there : (x count : ℕ) → x < count → once_below x count ≡ 1
once_there x count lt = grind (arith, nat_tests)

same_tests : (a b : ℕ) → a ≡ b → nat_eq b a ≡ true
same_tests a b e = grind (arith, nat_tests)

tests_same : (a b : ℕ) → nat_eq a b ≡ true → a ≡ b
tests_same a b e = grind (arith, nat_tests)

module _ {P S : Type 0} (Q : SeatView P S → Type 0) where
  -- a number that stands among those of seats is the number of one of them
  stands : (x : ℕ) (seats : List (SeatView P S)) → All Q seats → times x (map (λ s. s.number) seats) ≢ 0 → (s : SeatView P S) × (s.number ≡ x) × Q s
  stands x [] all some = absurd (some refl)
  stands x (s ∷ seats) all some = by (nat_eq s.number x) refl (stands x seats (All-tail Q s seats all))
    where
      by : (b : Bool) → nat_eq s.number x ≡ b → (times x (map (λ s. s.number) seats) ≢ 0 → (s : SeatView P S) × (s.number ≡ x) × Q s) → (s : SeatView P S) × (s.number ≡ x) × Q s
      by true e behind = (s, tests_same s.number x e, All-head Q s seats all)
      by false e behind = behind (λ none. some (ap (λ b. (if b then 1 else 0) + times x (map (λ s. s.number) seats)) e ∙ ap (λ n. 0 + n) none))

-- an entry stands among those with its number
own_first : {S : Type 0} (e : Entry S) (older : List (Entry S)) (n : ℕ) → n ≡ e.seat → own n (e ∷ older) ≢ []
own_first e older n is none =
    let there : e ∷ own n older ≡ [] = sym (ap (λ b. cond b (e ∷ own n older) (own n older)) (same_tests n e.seat is)) ∙ none in
    cc

module _ {P S : Type 0} where
  pub none_left : (is_legal : P → List (Entry S) → Type 0) (plan : P) (seats : List (SeatView P S)) (steps : List (Entry S)) → IsWhole is_legal plan seats steps → All (λ s. s.seen ≡ []) seats → steps ≡ []
  none_left is_legal plan seats [] whole new = refl
  none_left is_legal plan seats (e ∷ older) whole new =
      let below : e.seat < length seats = All-head (λ x. x.seat < length seats) e older whole.only in
      let once : times e.seat (map (λ s. s.number) seats) ≡ 1 = whole.once e.seat ∙ once_there e.seat (length seats) below in
      let r = stands (λ s. (own s.number (e ∷ older) ≡ own s.number s.seen) × (s.seen ≡ [])) e.seat seats (λ k d m. (whole.own k d m, new k d m)) (λ none. absurd (omega (arith, sym once ∙ none))) in
      absurd (own_first e older r.0.number r.1 (r.2.0 ∙ ap (own r.0.number) r.2.1))

  -- the same of what closing a desk gave, if it gave the object
  abbrev IsNew : SeatView P S → Type 0
  IsNew s = s.seen ≡ []

  pub left_new : {T E : Type 0} (is_legal : P → List (Entry S) → Type 0) (plan_of : T → P) (steps_of : T → List (Entry S)) (desk plan : P) (seats : List (SeatView P S)) (r : Result T E)
      → desk ≡ plan → All IsNew seats → IfOk r (λ o. plan_of o ≡ desk) → IfOk r (λ o. IsWhole is_legal desk seats (steps_of o)) → IfOk r (λ o. (plan_of o ≡ plan) × (steps_of o ≡ []))
  left_new is_legal plan_of steps_of desk plan seats (Ok o) is new planned whole = (planned ∙ is, none_left is_legal desk seats (steps_of o) whole new)
  left_new is_legal plan_of steps_of desk plan seats (Err e) is new planned whole = tt

  one_at : (s : SeatView P S) → IsNew s → All IsNew (s ∷ [])
  one_at s e zero d m = e
  one_at s e (suc k) d m = absurd (omega (arith, m))

  two_at : (s t : SeatView P S) → IsNew s → IsNew t → All IsNew (s ∷ t ∷ [])
  two_at s t e f zero d m = e
  two_at s t e f (suc k) d m = one_at t f k d (omega (arith, m))

  -- one seat, and two
  pub one_new : (s : SeatView P S) (seats : List (SeatView P S)) → seats ≡ s ∷ [] → s.seen ≡ [] → All IsNew seats
  one_new s seats is e = subst (All IsNew) (sym is) (one_at s e)

  pub two_new : (s t : SeatView P S) (seats : List (SeatView P S)) → seats ≡ s ∷ t ∷ [] → s.seen ≡ [] → t.seen ≡ [] → All IsNew seats
  two_new s t seats is e f = subst (All IsNew) (sym is) (two_at s t e f)

-- what holds of a refusal holds where nothing was accepted
pub refused : {T E Q : Type 0} (r : Result T E) → ((x : T) → r ≡ Ok x → ⊥) → IfErr r (λ _. Q) → Q
refused (Ok x) other h = absurd (other x refl)
refused (Err e) other h = h
