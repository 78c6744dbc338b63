-- The steps on the turn, on the front and at the slot keep the rule.
use Rattle.std.proofs.Common.{◌≡◌, ℕ, ◌+◌, ◌%◌, ◌^◌, ◌<◌, List, [], ◌∷◌, ◌++◌, length, set, Option, Some, None, refl, sym, ap, ◌∙◌, subst, arith, eqb, length-append}
use Rattle.std.specs.Prelude.{slice_index, slice_set}
use Rattle.std.proofs.lemmas.Bool.Decides.{nat_tests}
use mathlib.Core.Option.{some, none}
use prog.Atomic.{either}
use lib.ListN.{get_elem?}
use Rattle.history.specs.declared.entry.Entry.{Entry}
use Rattle.history.specs.Prefix.{IsPrefix}
use Rattle.atomic_table.specs.Table.{State, Me, step, stepped, Act, keeps, takes, gives, Valid, carried_after, Allows}
use Rattle.atomic_table.proofs.Lists.{exchanged, set_again, set_here}
use Rattle.turn_desk.specs.declared.rule.Place.{Place}
use Rattle.turn_desk.specs.declared.rule.View.{View}
use Rattle.turn_desk.specs.Views.{times}
use Rattle.turn_desk.specs.Rule.{Each, total, count_some, is_taken, numbers, holds_turn, closes, accounts_of, times_in, Fits, place_of, IsRunningRule}
use Rattle.turn_desk.specs.Plays.{account, caught_up, with_holding, Shows, tried, stayed, looked, entering, left}
use Rattle.turn_desk.proofs.Sums.{total-set, one_within, two_within, Each-append}
use Rattle.turn_desk.proofs.Histories.{prefix_refl, prefix_push}
use Rattle.turn_desk.proofs.Parts.{taken_one, taken_le, once_inside, once_le, numbers-caught_up, length-caught_up, raised_accounts, still_whole, fits_set}

pub total_same : {V : Type 0} (f : V → ℕ) (views : List V) (id : ℕ) (v w : V) → get_elem? views id ≡ some v → f w ≡ f v → total f (set views id w) ≡ total f views
total_same f views id v w at same = let moved = total-set f views id v w at in omega arith

abbrev held_in : {S : Type 0} → Option (List (Entry S)) → List (Entry S)
held_in None = []
held_in (Some g) = g

abbrev first_object : {T : Type 0} → List (ℕ × Place T) → T → T
first_object [] none_there = none_there
first_object (x ∷ xs) none_there = x.1.object

pub carried_same : {T : Type 0} {x y : T} {xs ys : List (ℕ × Place T)} → ◌≡◌ {A = List (ℕ × Place T)} ((0, place_of x) ∷ xs) ((0, place_of y) ∷ ys) → x ≡ y
carried_same {x} e = ap (λ c. first_object c x) e

pub times_self : (n : ℕ) → times n (n ∷ []) ≡ 1
times_self n = grind (arith, nat_tests)

module _ {T P S : Type 0} (is_legal : P → List (Entry S) → Type 0) (plan_of : T → P) (steps_of : T → List (Entry S)) (plan : P) where
  abbrev pub Holds : State (Place T) (View P S) → Type 0
  Holds = IsRunningRule is_legal plan_of steps_of plan

  -- a step that leaves the words and the views as they were
  pub idle : (s : State (Place T) (View P S)) (i n id : ℕ) (c : List (ℕ × Place T)) (v : View P S) → Holds s → get_elem? s.views id ≡ some v → slice_set s.words i n ≡ s.words → Holds (stepped s i n id c v keeps)
  idle s i n id c v h at words =
      subst Holds (λ k. record { words = sym words k; homes = s.homes; views = sym (set_again s.views id v at) k }) h

  -- the turn
  taken_turn : (s : State (Place T) (View P S)) (id new : ℕ) (c : List (ℕ × Place T)) (v : View P S) (d : T) (h : Holds s) → get_elem? s.views id ≡ some v → h.turn ≡ 0 → 0 < new → 0 < length v.accounts → steps_of d ≡ h.history
      → Holds (stepped s 0 new id c (with_holding (Some (steps_of d)) v) (takes 0 (place_of d)))
  taken_turn s id new c v d h at free pos some_account is =
      let w = with_holding (Some (steps_of d)) v in
      let mine = h.each id v at in
      record {
        history = h.history;
        turn = new;
        count = h.count;
        closers = h.closers;
        words = ap (λ ws. slice_set ws 0 new) h.words;
        legal = h.legal;
        home = λ z. absurd (omega arith);
        holders = let moved = total-set holds_turn s.views id v w at in let was : total holds_turn s.views ≡ 0 = h.holders ∙ ap is_taken free in let one = taken_one new pos in let within = one_within holds_turn s.views id v at in omega arith;
        closed_by = total_same closes s.views id v w at refl ∙ h.closed_by;
        one_closer = h.one_closer;
        few = h.few;
        once = λ x. total_same (times_in x) s.views id v w at refl ∙ h.once x;
        accounts = total_same accounts_of s.views id v w at refl ∙ h.accounts;
        seats = h.seats;
        each = fits_set plan h.history h.count s.views id w (λ j u apart there. h.each j u there)
            (record { planned = mine.planned; seen = mine.seen; heard = mine.heard; accounts = mine.accounts; holding = λ g e. (sym (ap held_in e) ∙ is, some_account); closing = mine.closing; fewest = mine.fewest });
      }

  pub tries : (slots id new : ℕ) (m : Me (Place T) (View P S)) → 0 < new → 0 < length m.0.accounts
      → Allows Holds slots id m 0 (λ n. either (eqb n 0) new n) (tried is_legal plan_of steps_of (step slots 0 0 new none) m)
  tries slots id new m pos some_account s h many at fits =
      let found : slice_index s.words 0 ≡ h.turn = ap (λ ws. slice_index ws 0) h.words in
      let mine = h.each id m.0 at in
      exchanged (slice_index s.words 0) 0 new
      (λ k. (w : View P S) × (a : Act (Place T)) × Valid s.homes m.1 a × Holds (stepped s 0 k id m.1 w a) × tried is_legal plan_of steps_of (step slots 0 0 new none) m (slice_index s.words 0) (w, carried_after m.1 a))
      (λ zero_found.
      let free : h.turn ≡ 0 = sym found ∙ zero_found in
      let home = h.home free in
      let shown : Shows is_legal m.0 h.history = record { legal = λ p e. subst (λ q. is_legal q h.history) (sym (mine.planned p e)) h.legal; later = mine.seen; learned = mine.heard; whole = mine.accounts; held = λ g e. (mine.holding g e).0 } in (
        with_holding (Some (steps_of home.0)) m.0,
        takes 0 (place_of home.0),
        home.1,
        taken_turn s id new m.1 m.0 home.0 h at free pos some_account home.3,
        ((λ _. record { object = home.0; carried = refl; view = refl; shows = subst (Shows is_legal m.0) (sym home.3) shown; planned = λ p e. home.2 ∙ sym (mine.planned p e) }), (λ apart. absurd (apart zero_found))),
      ))
      (λ apart. (m.0, keeps, tt, idle s 0 (slice_index s.words 0) id m.1 m.0 h at ((λ k. slice_set (h.words k) 0 (found k)) ∙ sym h.words), ((λ e. absurd (apart e)), (λ _. refl))))

  -- the mark of a turn that somebody waits for
  marked_turn : (s : State (Place T) (View P S)) (id : ℕ) (c : List (ℕ × Place T)) (v : View P S) (h : Holds s) → get_elem? s.views id ≡ some v → h.turn ≡ 1 → Holds (stepped s 0 2 id c v keeps)
  marked_turn s id c v h at held =
      let same : set s.views id v ≡ s.views = set_again s.views id v at in
      record {
        history = h.history;
        turn = 2;
        count = h.count;
        closers = h.closers;
        words = ap (λ ws. slice_set ws 0 2) h.words;
        legal = h.legal;
        home = λ z. absurd (omega arith);
        holders = ap (total holds_turn) same ∙ h.holders ∙ ap is_taken held;
        closed_by = ap (total closes) same ∙ h.closed_by;
        one_closer = h.one_closer;
        few = h.few;
        once = λ x. ap (total (times_in x)) same ∙ h.once x;
        accounts = ap (total accounts_of) same ∙ h.accounts;
        seats = h.seats;
        each = subst (λ vs. (j : ℕ) (u : View P S) → get_elem? vs j ≡ some u → Fits plan h.history h.count u) (sym same) h.each;
      }

  pub marks : (slots id : ℕ) (m : Me (Place T) (View P S)) → Allows Holds slots id m 0 (λ n. either (eqb n 1) 2 n) (stayed (step slots 0 1 2 none) m)
  marks slots id m s h many at fits =
      let found : slice_index s.words 0 ≡ h.turn = ap (λ ws. slice_index ws 0) h.words in
      exchanged (slice_index s.words 0) 1 2
      (λ k. (w : View P S) × (a : Act (Place T)) × Valid s.homes m.1 a × Holds (stepped s 0 k id m.1 w a) × stayed (step slots 0 1 2 none) m (slice_index s.words 0) (w, carried_after m.1 a))
      (λ one. (m.0, keeps, tt, marked_turn s id m.1 m.0 h at (sym found ∙ one), refl))
      (λ apart. (m.0, keeps, tt, idle s 0 (slice_index s.words 0) id m.1 m.0 h at ((λ k. slice_set (h.words k) 0 (found k)) ∙ sym h.words), refl))

  -- the front
  pub looks : (slots id : ℕ) (m : Me (Place T) (View P S)) → Allows Holds slots id m 1 (λ n. n) (looked is_legal (step slots 1 0 0 none) m)
  looks slots id m s h many at fits =
      let v = m.0 in
      let w = caught_up h.history v in
      let mine = h.each id v at in
      let found : slice_index s.words 1 ≡ length h.history = ap (λ ws. slice_index ws 1) h.words in (
        w,
        keeps,
        tt,
        record {
          history = h.history;
          turn = h.turn;
          count = h.count;
          closers = h.closers;
          words = λ k. slice_set (h.words k) 1 (found k);
          legal = h.legal;
          home = h.home;
          holders = total_same holds_turn s.views id v w at refl ∙ h.holders;
          closed_by = total_same closes s.views id v w at refl ∙ h.closed_by;
          one_closer = h.one_closer;
          few = h.few;
          once = λ x. total_same (times_in x) s.views id v w at (ap (times x) (numbers-caught_up h.history v.accounts)) ∙ h.once x;
          accounts = total_same accounts_of s.views id v w at (length-caught_up h.history v.accounts) ∙ h.accounts;
          seats = h.seats;
          each = fits_set plan h.history h.count s.views id w (λ j u apart there. h.each j u there) (record {
            planned = mine.planned;
            seen = prefix_refl h.history;
            heard = mine.heard;
            accounts = raised_accounts h.history v.accounts;
            holding = λ g e. ((mine.holding g e).0, subst (λ n. 0 < n) (sym (length-caught_up h.history v.accounts)) (mine.holding g e).1);
            closing = mine.closing;
            fewest = mine.fewest;
          });
        },
        record { history = h.history; front = found; shows = record { legal = λ p e. subst (λ q. is_legal q h.history) (sym (mine.planned p e)) h.legal; later = mine.seen; learned = mine.heard; whole = mine.accounts; held = λ g e. (mine.holding g e).0 }; once = λ x. (let sum = h.once x in let most = once_le x h.count in let within = one_within (times_in x) s.views id v at in omega arith); after = refl },
      )

  -- an entry of the seat that holds the turn
  pub enters : (slots id : ℕ) (m : Me (Place T) (View P S)) (d : T) (p : P) (g l : List (Entry S)) (n : ℕ) (e : S)
      → m.1 ≡ (0, place_of d) ∷ [] → m.0.plan ≡ Some p → m.0.holding ≡ Some g → m.0.accounts ≡ account n l ∷ []
      → steps_of d ≡ g ++ record { seat = n; step = e } ∷ [] → is_legal p (steps_of d) → length (steps_of d) < 2 ^ 64
      → Allows Holds slots id m 1 (λ k. (k + 1) % 2 ^ 64) (entering steps_of (step slots 1 1 0 none) m)
  enters slots id m d p g l n e carries planned holding accounts grown lawful short s h many at fits =
      let v = m.0 in
      let to = steps_of d in
      let w = with_holding (Some to) (caught_up to v) in
      let mine = h.each id v at in
      let entry : Entry S = record { seat = n; step = e } in
      let known = mine.holding g holding in
      let more : to ≡ h.history ++ entry ∷ [] = grown ∙ ap (λ xs. xs ++ entry ∷ []) known.0 in
      let found : slice_index s.words 1 ≡ length h.history = ap (λ ws. slice_index ws 1) h.words in
      let longer : length to ≡ length h.history + 1 = ap length more ∙ length-append h.history (entry ∷ []) in
      let front : (slice_index s.words 1 + 1) % 2 ^ 64 ≡ length to = omega arith in
      let one_holder : holds_turn v ≡ 1 = ap count_some holding in
      let one_account : times_in n v ≡ 1 = ap (λ xs. times n (numbers xs)) accounts ∙ times_self n in
      let counted = one_within (times_in n) s.views id v at in
      let once = h.once n in
      let inside : n < h.count = once_inside n h.count (omega arith) in
      let at_most_one = once_le n h.count in
      let turn_le = taken_le h.turn in
      let holders = h.holders in (
        w,
        keeps,
        tt,
        record {
          history = to;
          turn = h.turn;
          count = h.count;
          closers = h.closers;
          words = λ k. slice_set (h.words k) 1 (front k);
          legal = subst (λ q. is_legal q to) (mine.planned p planned) lawful;
          home = λ z. let none : is_taken h.turn ≡ 0 = ap is_taken z in let some_holder = one_within holds_turn s.views id v at in absurd (omega arith);
          holders = total_same holds_turn s.views id v w at (sym one_holder) ∙ h.holders;
          closed_by = total_same closes s.views id v w at refl ∙ h.closed_by;
          one_closer = h.one_closer;
          few = h.few;
          once = λ y. total_same (times_in y) s.views id v w at (ap (times y) (numbers-caught_up to v.accounts)) ∙ h.once y;
          accounts = total_same accounts_of s.views id v w at (length-caught_up to v.accounts) ∙ h.accounts;
          seats = subst (Each (λ (y : Entry S). y.seat < h.count)) (sym more) (Each-append (λ (y : Entry S). y.seat < h.count) h.history (entry ∷ []) h.seats (inside, tt));
          each = fits_set plan to h.count s.views id w
              (λ j u apart there. subst (λ xs. Fits plan xs h.count u) (sym more) (
              let theirs = h.each j u there in
              let both = two_within (times_in n) s.views id j v u at there (λ same. apart (sym same)) in
              record {
                planned = theirs.planned;
                seen = prefix_push (entry ∷ []) theirs.seen;
                heard = prefix_push (entry ∷ []) theirs.heard;
                accounts = still_whole h.history n e u.accounts (omega arith) theirs.accounts;
                holding = λ g' e'. let other : holds_turn u ≡ 1 = ap count_some e' in let two = two_within holds_turn s.views id j v u at there (λ same. apart (sym same)) in absurd (omega arith);
                closing = theirs.closing;
                fewest = theirs.fewest;
              }))
              (record {
                planned = mine.planned;
                seen = prefix_refl to;
                heard = subst (IsPrefix v.heard) (sym more) (prefix_push (entry ∷ []) mine.heard);
                accounts = raised_accounts to v.accounts;
                holding = λ g' e'. (sym (ap held_in e'), subst (λ k. 0 < k) (sym (length-caught_up to v.accounts)) known.1);
                closing = mine.closing;
                fewest = mine.fewest;
              });
        },
        (λ d' carries'. let same : d ≡ d' = carried_same (sym carries ∙ carries') in ap (λ y. (with_holding (Some (steps_of y)) (caught_up (steps_of y) v), m.1)) same),
      )

  -- the turn is left, and the slot with the object in it
  pub leaves : (slots id : ℕ) (v : View P S) (d : T) (p : P) → 0 < slots → v.plan ≡ Some p → plan_of d ≡ p → v.holding ≡ Some (steps_of d)
      → Allows Holds slots id (v, (0, place_of d) ∷ []) 0 (λ k. 0) (left (step slots 0 0 0 none) (v, (0, place_of d) ∷ []))
  leaves slots id v d p some_slot planned is holding s h many at fits =
      let w = with_holding None v in
      let mine = h.each id v at in
      let one_holder : holds_turn v ≡ 1 = ap count_some holding in
      let moved = total-set holds_turn s.views id v w at in
      let some_holder = one_within holds_turn s.views id v at in
      let turn_le = taken_le h.turn in
      let holders = h.holders in (
        w,
        gives,
        tt,
        record {
          history = h.history;
          turn = 0;
          count = h.count;
          closers = h.closers;
          words = ap (λ ws. slice_set ws 0 0) h.words;
          legal = h.legal;
          home = λ z. (d, set_here s.homes 0 (some (place_of d)) (omega arith), is ∙ mine.planned p planned, (mine.holding (steps_of d) holding).0);
          holders = omega arith;
          closed_by = total_same closes s.views id v w at refl ∙ h.closed_by;
          one_closer = h.one_closer;
          few = h.few;
          once = λ y. total_same (times_in y) s.views id v w at refl ∙ h.once y;
          accounts = total_same accounts_of s.views id v w at refl ∙ h.accounts;
          seats = h.seats;
          each = fits_set plan h.history h.count s.views id w (λ j u apart there. h.each j u there)
              (record { planned = mine.planned; seen = mine.seen; heard = mine.heard; accounts = mine.accounts; holding = λ g' e'. cc; closing = mine.closing; fewest = mine.fewest });
        },
        refl,
      )

  pub leaves_as : (slots id : ℕ) (m : Me (Place T) (View P S)) (d : T) (p : P) → 0 < slots → m.0.plan ≡ Some p → plan_of d ≡ p → m.0.holding ≡ Some (steps_of d) → m.1 ≡ (0, place_of d) ∷ []
      → Allows Holds slots id m 0 (λ k. 0) (left (step slots 0 0 0 none) m)
  leaves_as slots id m d p some_slot planned is holding carries =
      subst (λ c. Allows Holds slots id (m.0, c) 0 (λ k. 0) (left (step slots 0 0 0 none) (m.0, c))) (sym carries) (leaves slots id m.0 d p some_slot planned is holding)
