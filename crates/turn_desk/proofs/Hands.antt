-- What a seat knows after each step of a call.
use Rattle.std.proofs.Common.{◌≡◌, ℕ, ◌+◌, List, [], ◌∷◌, ◌++◌, length, map, Option, Some, None, sym, ap, ◌∙◌, subst, arith, ◌<◌, ◌≤◌, ◌≢◌, append-nil, length-append}
use Rattle.std.proofs.Math.Decide.{dec_lt}
use Rattle.std.proofs.lemmas.Bool.Decides.{nat_tests}
use mathlib.Core.Logic.{dite}
use Rattle.history.specs.declared.entry.Entry.{Entry}
use Rattle.history.specs.Past.{own, entered}
use Rattle.history.specs.Prefix.{IsPrefix}
use Rattle.atomic_table.specs.Table.{Me, rest}
use Rattle.atomic_table.specs.declared.shared.Seat.{Seat}
use Rattle.turn_desk.specs.declared.rule.Account.{Account}
use Rattle.turn_desk.specs.declared.rule.Place.{Place}
use Rattle.turn_desk.specs.declared.rule.View.{View}
use Rattle.turn_desk.specs.Views.{times}
use Rattle.turn_desk.specs.Rule.{Each, IsAccount, numbers, place_of}
use Rattle.turn_desk.specs.Plays.{account, first_of, rest_of, with_holding, with_accounts, kept_part, cut_part, gathered, Takes, Looks, Numbers}
use Rattle.turn_desk.specs.Seated.{IsSeated, seat_view}
use Rattle.turn_desk.specs.Working.{IsAtWork, GoesOn, HasWorked}
use Rattle.turn_desk.specs.Calls.{IsCall}
use Rattle.turn_desk.proofs.Histories.{own-append, own-entered}
use Rattle.turn_desk.proofs.Turns.{times_self, carried_same}

module _ {T P S : Type 0} (is_legal : P → List (Entry S) → Type 0) (plan_of : T → P) (steps_of : T → List (Entry S)) where
  -- a seat between two calls looks at the history
  pub seated_look : (number r : ℕ) (t u : Seat (Place T) (View P S)) → IsSeated number t → Looks is_legal t.me r u.me → IsSeated number u
  seated_look number r t u s l =
      let e = l.after in
      let h = l.history in
      record {
        empty = ap (λ m. m.1) e ∙ s.empty;
        account = ap (λ m. m.0.accounts) e ∙ ap (map (λ (a : Account S). account a.number h)) s.account ∙ ap (λ k. account number k ∷ []) (sym (ap (λ m. m.0.seen) e));
        holding = ap (λ m. m.0.holding) e ∙ s.holding;
        closing = ap (λ m. m.0.closing) e ∙ s.closing;
      }

  own_of : (number : ℕ) (seen h : List (Entry S)) (accounts : List (Account S)) → accounts ≡ account number seen ∷ [] → Each (IsAccount h) accounts → own number h ≡ own number seen
  own_of number seen h accounts e all = let whole = subst (Each (IsAccount h)) e all in whole.0.whole

  -- and its own entries are those that it had
  pub own_look : (number r : ℕ) (t u : Seat (Place T) (View P S)) → IsSeated number t → Looks is_legal t.me r u.me → own number u.me.0.seen ≡ own number t.me.0.seen
  own_look number r t u s l = ap (λ m. own number m.0.seen) l.after ∙ own_of number t.me.0.seen l.history t.me.0.accounts s.account l.shows.whole

  -- with the turn it has the object
  pub at_work : (number : ℕ) (plan : P) (t u : Seat (Place T) (View P S)) → IsSeated number t → t.me.0.plan ≡ Some plan → Takes is_legal plan_of steps_of t.me u.me → IsAtWork plan_of steps_of number plan u.me
  at_work number plan t u s planned taken = record {
    object = taken.object;
    carried = taken.carried ∙ ap (λ c. (0, place_of taken.object) ∷ c) s.empty;
    planned = ap (λ v. v.plan) taken.view ∙ planned;
    planned_object = taken.planned plan planned;
    held = ap (λ v. v.holding) taken.view;
    account = ap (λ v. v.accounts) taken.view ∙ s.account ∙ ap (λ k. account number k ∷ []) (sym (ap (λ v. v.seen) taken.view));
    unclosed = ap (λ v. v.closing) taken.view ∙ s.closing;
  }

  -- the object in its slot is this one
  unfoldable pub in_hand : (number : ℕ) (plan : P) (m : Me (Place T) (View P S)) (object : T) → IsAtWork plan_of steps_of number plan m → m.1 ≡ (0, place_of object) ∷ rest m.1 → IsAtWork plan_of steps_of number plan m
  in_hand number plan m object w lies =
      let same : w.object ≡ object = carried_same (sym w.carried ∙ lies) in
      record {
        object = object;
        carried = w.carried ∙ ap (λ d. (0, place_of d) ∷ []) same;
        planned = w.planned;
        planned_object = ap plan_of (sym same) ∙ w.planned_object;
        held = w.held ∙ ap (λ d. Some (steps_of d)) same;
        account = w.account;
        unclosed = w.unclosed;
      }

  -- where the object has taken no step, the seat looks at the history and goes on
  pub looked_on : (number r : ℕ) (plan : P) (m n : Me (Place T) (View P S)) (object : T) (w : IsAtWork plan_of steps_of number plan m) → plan_of object ≡ plan → steps_of object ≡ steps_of w.object
      → Looks is_legal (m.0, (0, place_of object) ∷ rest m.1) r n → IsAtWork plan_of steps_of number plan n × (n.0.seen ≡ steps_of object)
  looked_on number r plan m n object w planned kept l =
      let e = l.after in
      let h = l.history in
      let seen : n.0.seen ≡ h = ap (λ x. x.0.seen) e in (
        record {
          object = object;
          carried = ap (λ x. x.1) e ∙ ap (λ c. (0, place_of object) ∷ rest c) w.carried;
          planned = ap (λ x. x.0.plan) e ∙ w.planned;
          planned_object = planned;
          held = ap (λ x. x.0.holding) e ∙ w.held ∙ ap Some (sym kept);
          account = ap (λ x. x.0.accounts) e ∙ ap (map (λ (a : Account S). account a.number h)) w.account ∙ ap (λ k. account number k ∷ []) (sym seen);
          unclosed = ap (λ x. x.0.closing) e ∙ w.unclosed;
        },
        seen ∙ sym (l.shows.held (steps_of w.object) w.held) ∙ sym kept,
      )

  -- without the turn it is between two calls again
  pub seated_again : (number : ℕ) (plan : P) (t u : Seat (Place T) (View P S)) → IsAtWork plan_of steps_of number plan t.me → u.me ≡ (with_holding None t.me.0, []) → IsSeated number u
  seated_again number plan t u w e = record {
    empty = ap (λ m. m.1) e;
    account = ap (λ m. m.0.accounts) e ∙ w.account ∙ ap (λ k. account number k ∷ []) (sym (ap (λ m. m.0.seen) e));
    holding = ap (λ m. m.0.holding) e;
    closing = ap (λ m. m.0.closing) e ∙ w.unclosed;
  }

  module _ {Ask Answer : Type 0} (answers : P → List (Entry S) → Ask → Answer → Type 0) (taken : P → List (Entry S) → Ask → Answer → Option S) where
    pub called : (number : ℕ) (plan : P) (ask : Ask) (answer : Answer) (t u : Seat (Place T) (View P S)) (w : View P S) → IsSeated number t → t.me.0.plan ≡ Some plan → Takes is_legal plan_of steps_of t.me u.me
        → HasWorked is_legal answers taken plan number ask answer u.me.0 w → IsCall is_legal answers taken plan number t.me.0.seen ask answer w.seen
    called number plan ask answer t u w s planned took worked =
        let past : worked.past ≡ steps_of took.object = same_some (sym worked.held ∙ ap (λ v. v.holding) took.view) in
        let added = entered number (taken plan worked.past ask answer) in
        let kept : own number worked.past ≡ own number t.me.0.seen = ap (own number) past ∙ own_of number t.me.0.seen (steps_of took.object) t.me.0.accounts s.account took.shows.whole in
        record {
          past = worked.past;
          later = subst (IsPrefix t.me.0.seen) (sym past) took.shows.later;
          lawful = subst (is_legal plan) (sym past) (took.shows.legal plan planned);
          answered = worked.answered;
          seen = worked.seen;
          legal = worked.legal;
          alone = ap (own number) worked.seen ∙ own-append number worked.past added ∙ (λ i. kept i ++ own-entered number (taken plan worked.past ask answer) i);
        }
      where
        same_some : {a b : List (Entry S)} → ◌≡◌ {A = Option (List (Entry S))} (Some a) (Some b) → a ≡ b
        same_some e = cc

module _ {T : Type 0} where
  -- the one slot that is carried lies on top
  pub top : (c : List (ℕ × Place T)) (k : ℕ) (x : Place T) → c ≡ (k, x) ∷ [] → (old : Place T) × (c ≡ (k, old) ∷ rest c)
  top c k x e = (x, e ∙ ap (λ others. (k, x) ∷ others) (sym (ap rest e)))

module _ {S : Type 0} where
  -- where the history has grown, it is by one step
  pub step_taken : (number : ℕ) (before after : List (Entry S)) → GoesOn number before after → length after ≢ length before → (s : S) × (after ≡ before ++ record { seat = number; step = s } ∷ [])
  step_taken number before after g apart = by_step g.step g.is
    where
      by_step : (o : Option S) → after ≡ before ++ entered number o → (s : S) × (after ≡ before ++ record { seat = number; step = s } ∷ [])
      by_step None e = absurd (apart (ap length (e ∙ append-nil before)))
      by_step (Some s) e = (s, e)

  pub no_step : (number : ℕ) (before after : List (Entry S)) → GoesOn number before after → length after ≡ length before → after ≡ before
  no_step number before after g same = by_step g.step g.is
    where
      by_step : (o : Option S) → after ≡ before ++ entered number o → after ≡ before
      by_step None e = e ∙ append-nil before
      by_step (Some s) e = let longer : length after ≡ length before + 1 = ap length e ∙ length-append before (record { seat = number; step = s } ∷ []) in absurd (omega arith)

module _ {T P S : Type 0} where
  -- a seat to which the account of a new seat was added is as it was once it is cut
  pub kept_first : (number n : ℕ) (t u w : Seat (Place T) (View P S)) → IsSeated number t → Numbers n t.me u.me → w.me ≡ (kept_part u.me.0, u.me.1) → w.me ≡ t.me
  kept_first number n t u w s new e =
      let first : first_of (t.me.0.accounts ++ account n t.me.0.seen ∷ []) ≡ t.me.0.accounts = ap (λ xs. first_of (xs ++ account n t.me.0.seen ∷ [])) s.account ∙ sym s.account in
      e ∙ ap (λ m. (kept_part m.0, m.1)) new.after ∙ (λ i. (with_accounts (first i) t.me.0, t.me.1))

  pub seated_same : (number : ℕ) (t u : Seat (Place T) (View P S)) → IsSeated number t → u.me ≡ t.me → IsSeated number u
  seated_same number t u s e = record {
    empty = ap (λ m. m.1) e ∙ s.empty;
    account = ap (λ m. m.0.accounts) e ∙ s.account ∙ ap (λ k. account number k ∷ []) (sym (ap (λ m. m.0.seen) e));
    holding = ap (λ m. m.0.holding) e ∙ s.holding;
    closing = ap (λ m. m.0.closing) e ∙ s.closing;
  }

  -- the new seat has the new account, and has seen as much
  pub new_view : (number n : ℕ) (t u w : Seat (Place T) (View P S)) → IsSeated number t → Numbers n t.me u.me → w.me ≡ (cut_part u.me.0, []) → w.me.0 ≡ record { plan = t.me.0.plan; seen = t.me.0.seen; heard = t.me.0.heard; accounts = account n t.me.0.seen ∷ []; holding = None; closing = None; fewest = t.me.0.fewest }
  new_view number n t u w s new e =
      let others : rest_of (t.me.0.accounts ++ account n t.me.0.seen ∷ []) ≡ account n t.me.0.seen ∷ [] = ap (λ xs. rest_of (xs ++ account n t.me.0.seen ∷ [])) s.account in
      ap (λ m. m.0) e ∙ ap (λ m. cut_part m.0) new.after ∙ (λ i. record { plan = t.me.0.plan; seen = t.me.0.seen; heard = t.me.0.heard; accounts = others i; holding = None; closing = None; fewest = t.me.0.fewest })

  pub seated_new : (number n : ℕ) (t u w : Seat (Place T) (View P S)) → IsSeated number t → Numbers n t.me u.me → w.me ≡ (cut_part u.me.0, []) → IsSeated n w
  seated_new number n t u w s new e =
      let v = new_view number n t u w s new e in
      record {
        empty = ap (λ m. m.1) e;
        account = ap (λ x. x.accounts) v ∙ ap (λ k. account n k ∷ []) (sym (ap (λ x. x.seen) v));
        holding = ap (λ x. x.holding) v;
        closing = ap (λ x. x.closing) v;
      }

  -- the seat's own number lies below the new one
  pub new_number : (number n : ℕ) (t u w : Seat (Place T) (View P S)) → IsSeated number t → u.me ≡ t.me → Numbers n u.me w.me → number < n
  new_number number n t u w s same new =
      let one : times number (numbers u.me.0.accounts) ≡ 1 = ap (λ m. times number (numbers m.0.accounts)) same ∙ ap (λ xs. times number (numbers xs)) s.account ∙ times_self number in
      dite (dec_lt number n)
      (λ below. below)
      (λ other. let none_yet = new.new number (omega arith) in absurd (omega arith))

  pub same_view : (number : ℕ) (t u : Seat (Place T) (View P S)) → u.table_id ≡ t.table_id → u.me ≡ t.me → seat_view number u ≡ seat_view number t
  same_view number t u table e = λ i. record { desk = table i; plan = (e i).0.plan; number = number; seen = (e i).0.seen }

twice : (n m : ℕ) → n ≡ m → times n (n ∷ m ∷ []) ≡ 2
twice n m same = grind (arith, nat_tests)

-- two seats are joined, and no number stands in two accounts of what they know
pub apart_joined : {T P S : Type 0} (first second : ℕ) (a b both : Seat (Place T) (View P S)) → IsSeated first a → IsSeated second b → both.me ≡ (gathered a.me.0 b.me.0, a.me.1) → ((x : ℕ) → times x (numbers both.me.0.accounts) ≤ 1) → second ≢ first
apart_joined first second a b both at_a at_b joined once same =
    let accounts : both.me.0.accounts ≡ account second b.me.0.seen ∷ account first a.me.0.seen ∷ [] = ap (λ m. m.0.accounts) joined ∙ (λ i. at_b.account i ++ at_a.account i) in
    let two : times second (numbers both.me.0.accounts) ≡ 2 = ap (λ xs. times second (numbers xs)) accounts ∙ twice second first same in
    let one = once second in
    absurd (omega arith)
