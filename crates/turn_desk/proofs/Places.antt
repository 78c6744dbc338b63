-- The steps that make, cut and join seats, and that open and close the desk, keep the rule.
use Rattle.std.proofs.Common.{◌≡◌, ◌≢◌, ⊎_elim, ℕ, zero, suc, ◌+◌, ◌<◌, ◌≤◌, List, [], ◌∷◌, ◌++◌, length, set, Option, Some, None, Bool, true, false, cond, nat_eq, refl, sym, ap, ◌∙◌, subst, arith, eqb, length-append}
use Rattle.std.specs.Prelude.{slice_index, slice_set}
use Rattle.std.proofs.Math.Nat.{max-le}
use Rattle.std.proofs.lemmas.Bool.Decides.{nat_tests}
use mathlib.Core.Option.{some, none, some-injective, some-ne-none}
use mathlib.Core.Logic.{dite}
use native.Mathlib.Decide.{ℕ_discrete}
use prog.Atomic.{either}
use lib.ListN.{get_elem?}
use Rattle.history.specs.declared.entry.Entry.{Entry}
use Rattle.history.specs.Past.{own}
use Rattle.atomic_table.specs.Table.{State, Me, step, stepped, Act, keeps, Valid, carried_after, Allows, Splits, Joins, Arrives, opening, Final, Seen}
use Rattle.atomic_table.proofs.Lists.{exchanged, at_snoc, set_again, set_else}
use Rattle.turn_desk.specs.declared.rule.Account.{Account}
use Rattle.turn_desk.specs.declared.rule.Place.{Place}
use Rattle.turn_desk.specs.declared.rule.View.{View}
use Rattle.turn_desk.specs.declared.rule.TheConstants.{CLOSED}
use Rattle.turn_desk.specs.declared.seat.TheConstants.{MOST_SEATS}
use Rattle.turn_desk.specs.Views.{times, once_below}
use Rattle.turn_desk.specs.Rule.{Each, total, count_some, is_taken, made_word, numbers, holds_turn, closes, accounts_of, times_in, IsAccount, Fits, place_of}
use Rattle.turn_desk.specs.Plays.{account, opener, bare, with_accounts, with_closing, above_first, kept_part, cut_part, whole_part, count_part, gathered, numbering, closing, opening_again}
use Rattle.turn_desk.specs.Ending.{IsEnded}
use Rattle.turn_desk.proofs.Sums.{total-set, total-push, one_within, others_below, times-append, Each-append, Each-weaker}
use Rattle.turn_desk.proofs.Histories.{prefix_refl, prefix_none}
use Rattle.turn_desk.proofs.Parts.{once_inside, once_outside, once_more, numbers-append, times-parts, length-parts, first_some, Each-first_of, Each-rest_of, seats_seen, none_seen, fits_set}
use Rattle.turn_desk.proofs.Turns.{Holds, idle, total_same}

-- the number of seats made, where the word is below the mark
open_count : (count closers n : ℕ) → made_word count closers ≡ n → n < CLOSED → (closers ≡ 0) × (count ≡ n)
open_count count zero n e below = (refl, e)
open_count count (suc k) n e below = absurd (omega arith)

once_first : (x : ℕ) → (cond (nat_eq 0 x) 1 0 + 0) + 0 ≡ once_below x 1
once_first x = grind (arith, nat_tests)

untaken : (n : ℕ) → is_taken n ≡ 0 → n ≡ 0
untaken zero e = refl
untaken (suc n) e = absurd (omega arith)

held_le : {A : Type 0} (o : Option A) (k : ℕ) → ((x : A) → o ≡ Some x → 0 < k) → count_some o ≤ k
held_le None k some_account = omega arith
held_le (Some x) k some_account = some_account x refl

times_le : (x : ℕ) (ns : List ℕ) (k : ℕ) → length ns ≡ k → times x ns ≤ k
times_le x [] k e = omega arith
times_le x (n ∷ ns) k e = let others = times_le x ns (length ns) refl in let one = test_le (nat_eq n x) in omega arith
  where
    test_le : (b : Bool) → cond b 1 0 ≤ 1
    test_le true = omega arith
    test_le false = omega arith

times_here : (x : ℕ) (ns : List ℕ) → 0 < times x (x ∷ ns)
times_here x ns = grind (arith, nat_tests)

either_same : (k a n : ℕ) → n ≡ a → either (eqb k a) n k ≡ k
either_same k a n same = grind (arith, nat_tests)

either_hit : (k a n : ℕ) → k ≡ a → either (eqb k a) n k ≡ n
either_hit k a n same = grind (arith, nat_tests)

length-numbers : {S : Type 0} (xs : List (Account S)) → length (numbers xs) ≡ length xs
length-numbers [] = refl
length-numbers (x ∷ xs) = ap suc (length-numbers xs)

module _ {T P S : Type 0} (is_legal : P → List (Entry S) → Type 0) (plan_of : T → P) (steps_of : T → List (Entry S)) (plan : P) where
  abbrev Rule : State (Place T) (View P S) → Type 0
  Rule = Holds is_legal plan_of steps_of plan

  numbered : (s : State (Place T) (View P S)) (id n : ℕ) (c : List (ℕ × Place T)) (v : View P S) (h : Rule s) → get_elem? s.views id ≡ some v → made_word h.count h.closers ≡ n → n < MOST_SEATS
      → Rule (stepped s 2 (n + 1) id c (with_accounts (v.accounts ++ account n v.seen ∷ []) v) keeps) × (own n v.seen ≡ []) × ((x : ℕ) → n ≤ x → times x (numbers v.accounts) ≡ 0) × Each (λ (y : Entry S). y.seat < n) v.seen
  numbered s id n c v h at e below =
      let w = with_accounts (v.accounts ++ account n v.seen ∷ []) v in
      let now = open_count h.count h.closers n e (omega arith) in
      let mine = h.each id v at in
      let count_is = now.1 in
      let nobody : total closes s.views ≡ 0 = h.closed_by ∙ now.0 in
      let no_entry : own n v.seen ≡ [] = none_seen n h.count v.seen h.history mine.seen h.seats (omega arith) in
      let no_entry_at_all : own n h.history ≡ [] = none_seen n h.count h.history h.history (prefix_refl h.history) h.seats (omega arith) in
      let older : Each (λ (y : Entry S). y.seat < n) v.seen = subst (λ k. Each (λ (y : Entry S). y.seat < k) v.seen) count_is (seats_seen h.count v.seen h.history mine.seen h.seats) in (
        record {
          history = h.history;
          turn = h.turn;
          count = n + 1;
          closers = 0;
          words = ap (λ ws. slice_set ws 2 (n + 1)) h.words;
          legal = h.legal;
          home = h.home;
          holders = total_same holds_turn s.views id v w at refl ∙ h.holders;
          closed_by = total_same closes s.views id v w at refl ∙ nobody;
          one_closer = omega arith;
          few = omega arith;
          once = λ x.
              let moved = total-set (times_in x) s.views id v w at in
              let once_x = h.once x in
              let added : times_in x w ≡ times_in x v + (cond (nat_eq n x) 1 0 + 0) = ap (times x) (numbers-append v.accounts (account n v.seen ∷ [])) ∙ times-append x (numbers v.accounts) (n ∷ []) in
              let more = once_more x n in
              let was : once_below x h.count ≡ once_below x n = ap (once_below x) count_is in
              omega arith;
          accounts =
              let moved = total-set accounts_of s.views id v w at in
              let longer = length-append v.accounts (account n v.seen ∷ []) in
              let were = h.accounts in
              omega arith;
          seats = Each-weaker (λ (y : Entry S). y.seat < h.count) (λ y. y.seat < n + 1) h.history (λ y l. omega arith) h.seats;
          each = fits_set plan h.history (n + 1) s.views id w
              (λ j u apart there.
              let theirs = h.each j u there in
              record {
                planned = theirs.planned;
                seen = theirs.seen;
                heard = theirs.heard;
                accounts = theirs.accounts;
                holding = theirs.holding;
                closing = λ k e'. let one : closes u ≡ 1 = ap count_some e' in let some_closer = one_within closes s.views j u there in absurd (omega arith);
                fewest = let most = theirs.fewest in omega arith;
              })
              (record {
                planned = mine.planned;
                seen = mine.seen;
                heard = mine.heard;
                accounts = Each-append (IsAccount h.history) v.accounts (account n v.seen ∷ []) mine.accounts (record { prefix = mine.seen; whole = no_entry_at_all ∙ sym no_entry }, tt);
                holding = λ g e'. ((mine.holding g e').0, (let longer = length-append v.accounts (account n v.seen ∷ []) in omega arith));
                closing = λ k e'. let one : closes v ≡ 1 = ap count_some e' in let some_closer = one_within closes s.views id v at in absurd (omega arith);
                fewest = let most = mine.fewest in omega arith;
              });
        },
        no_entry,
        (λ x above.
            let unused = once_outside x h.count (omega arith) in
            let once = h.once x in
            let within = one_within (times_in x) s.views id v at in
            omega arith),
        older,
      )

  pub takes_number : (slots id n : ℕ) (m : Me (Place T) (View P S)) → n < MOST_SEATS → Allows Rule slots id m 2 (λ k. either (eqb k n) (n + 1) k) (numbering (step slots 2 n (n + 1) none) m)
  takes_number slots id n m below s h many at fits =
      let found : slice_index s.words 2 ≡ made_word h.count h.closers = ap (λ ws. slice_index ws 2) h.words in
      exchanged (slice_index s.words 2) n (n + 1)
      (λ k. (w : View P S) × (a : Act (Place T)) × Valid s.homes m.1 a × Rule (stepped s 2 k id m.1 w a) × numbering (step slots 2 n (n + 1) none) m (slice_index s.words 2) (w, carried_after m.1 a))
      (λ hit.
      let taken = numbered s id n m.1 m.0 h at (sym found ∙ hit) below in
      (with_accounts (m.0.accounts ++ account n m.0.seen ∷ []) m.0, keeps, tt, taken.0, ((λ _. record { after = refl; none = taken.1; new = taken.2; older = taken.3 }), (λ apart. absurd (apart hit)))))
      (λ apart. (m.0, keeps, tt, idle is_legal plan_of steps_of plan s 2 (slice_index s.words 2) id m.1 m.0 h at ((λ k. slice_set (h.words k) 2 (found k)) ∙ sym h.words), ((λ e. absurd (apart e)), (λ _. refl))))

  -- a view is cut in two
  pub cuts : (id : ℕ) (v : View P S) → Splits Rule id v (kept_part v) (cut_part v)
  cuts id v s h at =
      let l = kept_part v in
      let r = cut_part v in
      let mine = h.each id v at in
      record {
        history = h.history;
        turn = h.turn;
        count = h.count;
        closers = h.closers;
        words = h.words;
        legal = h.legal;
        home = h.home;
        holders = let moved = total-set holds_turn s.views id v l at in let pushed = total-push holds_turn (set s.views id l) r in let was = h.holders in omega arith;
        closed_by = let moved = total-set closes s.views id v l at in let pushed = total-push closes (set s.views id l) r in let was = h.closed_by in omega arith;
        one_closer = h.one_closer;
        few = h.few;
        once = λ x. let moved = total-set (times_in x) s.views id v l at in let pushed = total-push (times_in x) (set s.views id l) r in let parts = times-parts x v.accounts in let was = h.once x in omega arith;
        accounts = let moved = total-set accounts_of s.views id v l at in let pushed = total-push accounts_of (set s.views id l) r in let parts = length-parts v.accounts in let was = h.accounts in omega arith;
        seats = h.seats;
        each = λ j u there.
            ⊎_elim
            (λ old. fits_set plan h.history h.count s.views id l (λ i y apart e. h.each i y e)
            (record { planned = mine.planned; seen = mine.seen; heard = mine.heard; accounts = Each-first_of (IsAccount h.history) v.accounts mine.accounts; holding = λ g e. ((mine.holding g e).0, first_some v.accounts (mine.holding g e).1); closing = mine.closing; fewest = mine.fewest }) j u old)
            (λ (new : r ≡ u). subst (Fits plan h.history h.count) new
            (record { planned = mine.planned; seen = mine.seen; heard = mine.heard; accounts = Each-rest_of (IsAccount h.history) v.accounts mine.accounts; holding = λ g e. cc; closing = λ n e. cc; fewest = mine.fewest }))
            (at_snoc (set s.views id l) r u j there);
      }

  -- a view takes in another, which holds nothing
  pub gathers : (id : ℕ) (v : View P S) (other : ℕ) (w : View P S) → w.holding ≡ None → w.closing ≡ None → Joins Rule id v other w (gathered v w) (bare None None)
  gathers id v other w unheld unclosed s h at apart there =
      let b = gathered v w in
      let e : View P S = bare None None in
      let mine = h.each id v at in
      let was_there : get_elem? s.views other ≡ some w = sym (set_else s.views id other b apart) ∙ there in
      let theirs = h.each other w was_there in
      let no_turn : holds_turn w ≡ 0 = ap count_some unheld in
      let no_close : closes w ≡ 0 = ap count_some unclosed in
      record {
        history = h.history;
        turn = h.turn;
        count = h.count;
        closers = h.closers;
        words = h.words;
        legal = h.legal;
        home = h.home;
        holders = let first = total-set holds_turn s.views id v b at in let second = total-set holds_turn (set s.views id b) other w e there in let was = h.holders in omega arith;
        closed_by = let first = total-set closes s.views id v b at in let second = total-set closes (set s.views id b) other w e there in let was = h.closed_by in omega arith;
        one_closer = h.one_closer;
        few = h.few;
        once = λ x.
            let first = total-set (times_in x) s.views id v b at in
            let second = total-set (times_in x) (set s.views id b) other w e there in
            let both : times_in x b ≡ times_in x w + times_in x v = ap (times x) (numbers-append w.accounts v.accounts) ∙ times-append x (numbers w.accounts) (numbers v.accounts) in
            let was = h.once x in
            omega arith;
        accounts =
            let first = total-set accounts_of s.views id v b at in
            let second = total-set accounts_of (set s.views id b) other w e there in
            let both = length-append w.accounts v.accounts in
            let was = h.accounts in
            omega arith;
        seats = h.seats;
        each = fits_set plan h.history h.count (set s.views id b) other e
            (λ j u _ x. fits_set plan h.history h.count s.views id b (λ i y _ z. h.each i y z)
            (record {
              planned = mine.planned;
              seen = mine.seen;
              heard = theirs.seen;
              accounts = Each-append (IsAccount h.history) w.accounts v.accounts theirs.accounts mine.accounts;
              holding = λ g z. ((mine.holding g z).0, (let some_account = (mine.holding g z).1 in let both = length-append w.accounts v.accounts in omega arith));
              closing = mine.closing;
              fewest = max-le mine.fewest theirs.fewest;
            }) j u x)
            (record { planned = λ p z. cc; seen = prefix_none h.history; heard = prefix_none h.history; accounts = tt; holding = λ g z. cc; closing = λ n z. cc; fewest = omega arith });
      }

  with_new : (s : State (Place T) (View P S)) (h : Rule s) (c : Option ℕ) (k : ℕ) → h.closers + count_some c ≡ k → k ≤ 1 → made_word h.count k ≡ CLOSED → ((n : ℕ) → c ≡ Some n → n ≡ h.count)
      → Rule record { words = slice_set s.words 2 CLOSED; homes = s.homes; views = s.views ++ bare (Some plan) c ∷ [] }
  with_new s h c k sum one closed is =
      let w : View P S = bare (Some plan) c in
      record {
        history = h.history;
        turn = h.turn;
        count = h.count;
        closers = k;
        words = ap (λ ws. slice_set ws 2 CLOSED) h.words ∙ ap (λ z. h.turn ∷ length h.history ∷ z ∷ []) (sym closed);
        legal = h.legal;
        home = h.home;
        holders = let pushed = total-push holds_turn s.views w in let was = h.holders in omega arith;
        closed_by = let pushed = total-push closes s.views w in let was = h.closed_by in omega arith;
        one_closer = one;
        few = h.few;
        once = λ x. let pushed = total-push (times_in x) s.views w in let was = h.once x in omega arith;
        accounts = let pushed = total-push accounts_of s.views w in let was = h.accounts in omega arith;
        seats = h.seats;
        each = λ j u there.
            ⊎_elim
            (λ old. h.each j u old)
            (λ (new : w ≡ u). subst (Fits plan h.history h.count) new
            (record { planned = λ p e. cc; seen = prefix_none h.history; heard = prefix_none h.history; accounts = tt; holding = λ g e. cc; closing = is; fewest = omega arith }))
            (at_snoc s.views w u j there);
      }

  -- a seat that closes the desk comes: from now on no number is taken
  pub closes_desk : (slots : ℕ) → Arrives Rule slots 2 (λ _. CLOSED) (closing (step slots 2 CLOSED 0 none) (opener plan, []))
  closes_desk slots s h many fits =
      let found : slice_index s.words 2 ≡ made_word h.count h.closers = ap (λ ws. slice_index ws 2) h.words in
      let few = h.few in
      let one = h.one_closer in
      dite (ℕ_discrete h.closers 0)
      (λ nobody.
      let number : slice_index s.words 2 ≡ h.count = found ∙ ap (made_word h.count) nobody in (
        bare (Some plan) (Some (slice_index s.words 2)),
        keeps,
        tt,
        with_new s h (Some (slice_index s.words 2)) 1 (omega arith) (omega arith) refl (λ n e. let same : slice_index s.words 2 ≡ n = cc in sym same ∙ number),
        ((λ e. absurd (omega arith)), (λ _. ((omega arith), refl))),
      ))
      (λ somebody.
      let single : h.closers ≡ 1 = omega arith in
      let mark : made_word h.count h.closers ≡ CLOSED = ap (made_word h.count) single in (
        bare (Some plan) None,
        keeps,
        tt,
        with_new s h None h.closers (omega arith) one mark (λ n e. cc),
        ((λ _. refl), (λ apart. absurd (apart (found ∙ mark)))),
      ))

  -- a seat says that its number lies below the count
  counted : (x : ℕ) (xs : List (Account S)) (count : ℕ) → ((y : ℕ) → times y (numbers xs) ≤ once_below y count) → above_first xs ≤ count
  counted x [] count once = omega arith
  counted x (a ∷ xs) count once = let one = once a.number in let here = times_here a.number (numbers xs) in let below = once_inside a.number count (omega arith) in omega arith

  pub counts : (id : ℕ) (v : View P S) → Splits Rule id v (whole_part v) (count_part v)
  counts id v s h at =
      let r = count_part v in
      let mine = h.each id v at in
      let same : set s.views id v ≡ s.views = set_again s.views id v at in
      let within : above_first v.accounts ≤ h.count = counted 0 v.accounts h.count (λ y. let all = h.once y in let some_times = one_within (times_in y) s.views id v at in omega arith) in
      subst (λ vs. Rule record { words = s.words; homes = s.homes; views = vs ++ r ∷ [] }) (sym same) record {
        history = h.history;
        turn = h.turn;
        count = h.count;
        closers = h.closers;
        words = h.words;
        legal = h.legal;
        home = h.home;
        holders = let pushed = total-push holds_turn s.views r in let was = h.holders in omega arith;
        closed_by = let pushed = total-push closes s.views r in let was = h.closed_by in omega arith;
        one_closer = h.one_closer;
        few = h.few;
        once = λ x. let pushed = total-push (times_in x) s.views r in let was = h.once x in omega arith;
        accounts = let pushed = total-push accounts_of s.views r in let was = h.accounts in omega arith;
        seats = h.seats;
        each = λ j u there.
            ⊎_elim
            (λ old. h.each j u old)
            (λ (new : r ≡ u). subst (Fits plan h.history h.count) new
            (record { planned = mine.planned; seen = prefix_none h.history; heard = prefix_none h.history; accounts = tt; holding = λ g e. cc; closing = λ n e. cc; fewest = within }))
            (at_snoc s.views r u j there);
      }

  opened_again : (s : State (Place T) (View P S)) (id n : ℕ) (c : List (ℕ × Place T)) (v : View P S) (h : Rule s) → get_elem? s.views id ≡ some v → v.closing ≡ Some n
      → Rule (stepped s 2 n id c (with_closing None v) keeps)
  opened_again s id n c v h at closer =
      let w = with_closing None v in
      let mine = h.each id v at in
      let moved = total-set closes s.views id v w at in
      let within = one_within closes s.views id v at in
      let one : closes v ≡ 1 = ap count_some closer in
      let sum = h.closed_by in
      let most = h.one_closer in
      record {
        history = h.history;
        turn = h.turn;
        count = h.count;
        closers = 0;
        words = ap (λ ws. slice_set ws 2 n) h.words ∙ ap (λ z. h.turn ∷ length h.history ∷ z ∷ []) (mine.closing n closer);
        legal = h.legal;
        home = h.home;
        holders = total_same holds_turn s.views id v w at refl ∙ h.holders;
        closed_by = omega arith;
        one_closer = omega arith;
        few = h.few;
        once = λ x. total_same (times_in x) s.views id v w at refl ∙ h.once x;
        accounts = total_same accounts_of s.views id v w at refl ∙ h.accounts;
        seats = h.seats;
        each = fits_set plan h.history h.count s.views id w (λ j u _ there. h.each j u there)
            (record { planned = mine.planned; seen = mine.seen; heard = mine.heard; accounts = mine.accounts; holding = mine.holding; closing = λ k e. cc; fewest = mine.fewest });
      }

  -- and the seat that closes the desk goes, where the desk isn't closed
  pub reopens : (slots id n : ℕ) (m : Me (Place T) (View P S)) → (n ≢ CLOSED → m.0.closing ≡ Some n) → Allows Rule slots id m 2 (λ k. either (eqb k CLOSED) n k) (opening_again (step slots 2 CLOSED n none) m)
  reopens slots id n m closer s h many at fits =
      let found : slice_index s.words 2 ≡ made_word h.count h.closers = ap (λ ws. slice_index ws 2) h.words in
      let mine = h.each id m.0 at in
      let few = h.few in
      let heard = mine.fewest in
      let word : slice_set s.words 2 (slice_index s.words 2) ≡ s.words = (λ k. slice_set (h.words k) 2 (found k)) ∙ sym h.words in
      dite (ℕ_discrete n CLOSED)
      (λ mark.
      let same : either (eqb (slice_index s.words 2) CLOSED) n (slice_index s.words 2) ≡ slice_index s.words 2 = either_same (slice_index s.words 2) CLOSED n mark in
      (m.0, keeps, tt, idle is_legal plan_of steps_of plan s 2 (either (eqb (slice_index s.words 2) CLOSED) n (slice_index s.words 2)) id m.1 m.0 h at (ap (slice_set s.words 2) same ∙ word), (omega arith, omega arith)))
      (λ apart.
      let closing_is = closer apart in
      let count_is = mine.closing n closing_is in
      let one : closes m.0 ≡ 1 = ap count_some closing_is in
      let within = one_within closes s.views id m.0 at in
      let sum = h.closed_by in
      let most = h.one_closer in
      let single : h.closers ≡ 1 = omega arith in
      let marked : slice_index s.words 2 ≡ CLOSED = found ∙ ap (made_word h.count) single in
      let new : either (eqb (slice_index s.words 2) CLOSED) n (slice_index s.words 2) ≡ n = either_hit (slice_index s.words 2) CLOSED n marked in
      (with_closing None m.0, keeps, tt, subst (λ k. Rule (stepped s 2 k id m.1 (with_closing None m.0) keeps)) (sym new) (opened_again s id n m.1 m.0 h at closing_is), (omega arith, omega arith)))

  -- a new desk
  pub opens : (d : T) → plan_of d ≡ plan → steps_of d ≡ [] → is_legal plan [] → Rule (opening (0 ∷ 0 ∷ 1 ∷ []) (place_of d ∷ []) (opener plan))
  opens d is fresh lawful = record {
    history = [];
    turn = 0;
    count = 1;
    closers = 0;
    words = refl;
    legal = lawful;
    home = λ _. (d, refl, is, fresh);
    holders = refl;
    closed_by = refl;
    one_closer = omega arith;
    few = omega arith;
    once = λ x. once_first x;
    accounts = refl;
    seats = tt;
    each = first_fits;
  }
    where
      first_fits : (j : ℕ) (u : View P S) → get_elem? (opener plan ∷ []) j ≡ some u → Fits plan [] 1 u
      first_fits zero u e = subst (Fits plan [] 1) (some-injective (opener plan) u e) record {
        planned = λ p z. cc;
        seen = prefix_refl [];
        heard = prefix_refl [];
        accounts = (record { prefix = prefix_refl []; whole = refl }, tt);
        holding = λ g z. cc;
        closing = λ n z. cc;
        fewest = omega arith;
      }
      first_fits (suc j) u e = absurd (some-ne-none u (sym e))

  pub ends : (id n : ℕ) (v : View P S) (words : List ℕ) (slots : List (Place T)) → (n ≢ MOST_SEATS → v.closing ≡ Some n) → v.holding ≡ None → n ≤ length v.accounts → Final (Seen Rule id v) words slots → (d : T) × (get_elem? slots 0 ≡ some (place_of d)) × IsEnded is_legal plan_of steps_of plan v.accounts d
  ends id n v words slots closer unheld enough f =
      let h = f.1.0 in
      let at = f.1.1 in
      let views = f.0.views in
      let mine = h.each id v at in
      let few = h.few in
      let enough_made : h.count ≤ n = dite (ℕ_discrete n MOST_SEATS) (λ most. omega arith) (λ apart. let count_is = mine.closing n (closer apart) in omega arith) in
      let within = one_within accounts_of views id v at in
      let sum = h.accounts in
      let all_mine : length v.accounts ≡ h.count = omega arith in
      let no_turn : holds_turn v ≡ 0 = ap count_some unheld in
      let others = others_below holds_turn accounts_of views id v (λ j u there. held_le u.holding (length u.accounts) (λ g e. ((h.each j u there).holding g e).1)) at in
      let holders = h.holders in
      let free = untaken h.turn (omega arith) in
      let home = h.home free in (
        home.0,
        f.4 0 (place_of home.0) home.1,
        record {
          planned = home.2;
          legal = subst (is_legal plan) (sym home.3) h.legal;
          whole = subst (λ l. Each (IsAccount l) v.accounts) (sym home.3) mine.accounts;
          once = λ x.
              let once = h.once x in
              let some_times = one_within (times_in x) views id v at in
              let elsewhere = others_below (times_in x) accounts_of views id v (λ j u there. times_le x (numbers u.accounts) (length u.accounts) (length-numbers u.accounts)) at in
              let is : times_in x v ≡ once_below x h.count = omega arith in
              is ∙ ap (once_below x) (sym all_mine);
          seats = subst (λ l. Each (λ (e : Entry S). e.seat < length v.accounts) l) (sym home.3) (subst (λ k. Each (λ (e : Entry S). e.seat < k) h.history) (sym all_mine) h.seats);
        },
      )
