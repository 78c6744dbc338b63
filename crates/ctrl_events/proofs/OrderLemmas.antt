-- What a log of numbers holds once an entry is emptied or put last, and once it is packed.
use Rattle.std.proofs.Common.{arith, ◌≡◌, ℕ, zero, suc, ◌∙◌, ◌-◌, ◌<◌, ◌≤◌, Bool, true, false, cond, inl, inr, ◌⊎◌, ◌||◌, List, [], ◌∷◌, ◌++◌, filter, length, map, drop, set, slice_get, Option, None, Some, is_some, Result, Ok, Err, OnOk, OnErr, nat_eq, eq-eqb, true≢false, refl, sym, ap, subst}
use Rattle.std.proofs.lemmas.Bool.{or_from, or_parts, cases_lt, cases_eq}
use Rattle.std.proofs.lemmas.Bool.Decides.{eqb_tells}
use Rattle.std.proofs.lemmas.Option.{slice_get_within, slice_get_past}
use Rattle.ctrl_events.proofs.KeptLemmas.{Tells}
use Rattle.ctrl_events.specs.Order.{OrderData, has, without, AreApart, logged, is_of, is_empty_entry, entry_number, checked_place, place_in, ArePlaced, renewed, AreEmptyBelow, IsOrder}

-- what is read after a write
pub read_same : {X : Type 0} (xs : List X) (i : ℕ) (x : X) → i < length xs → slice_get (set xs i x) i ≡ Some x
read_same [] i x within = absurd (omega (arith, within))
read_same (y ∷ xs) zero x within = refl
read_same (y ∷ xs) (suc i) x within = read_same xs i x (omega (arith, within))

pub read_other : {X : Type 0} (xs : List X) (i j : ℕ) (x : X) → (i ≡ j → ⊥) → slice_get (set xs i x) j ≡ slice_get xs j
read_other [] i j x apart = refl
read_other (y ∷ xs) zero zero x apart = absurd (apart refl)
read_other (y ∷ xs) zero (suc j) x apart = refl
read_other (y ∷ xs) (suc i) zero x apart = refl
read_other (y ∷ xs) (suc i) (suc j) x apart = read_other xs i j x (λ same. apart (ap suc same))

-- what is read of a list with one more
pub read_more : {X : Type 0} (xs : List X) (x : X) (i : ℕ) (y : X) → slice_get xs i ≡ Some y → slice_get (xs ++ x ∷ []) i ≡ Some y
read_more [] x i y there = cc
read_more (z ∷ xs) x zero y there = there
read_more (z ∷ xs) x (suc i) y there = read_more xs x i y there

pub read_last : {X : Type 0} (xs : List X) (x : X) (i : ℕ) (y : X) → slice_get (xs ++ x ∷ []) i ≡ Some y → (slice_get xs i ≡ Some y) ⊎ ((i ≡ length xs) × (x ≡ y))
read_last [] x zero y there = inr (refl, cc)
read_last [] x (suc i) y there = cc
read_last (z ∷ xs) x zero y there = inl there
read_last (z ∷ xs) x (suc i) y there = by (read_last xs x i y there)
  where
    by : (slice_get xs i ≡ Some y) ⊎ ((i ≡ length xs) × (x ≡ y)) → (slice_get xs i ≡ Some y) ⊎ ((suc i ≡ suc (length xs)) × (x ≡ y))
    by (inl further) = inl further
    by (inr last) = inr (ap suc last.0, last.1)

-- what is left once an entry is emptied was there before
emptied : (log : List (Option ℕ)) (p i n : ℕ) → slice_get (set log p None) i ≡ Some (Some n) → slice_get log i ≡ Some (Some n)
emptied [] p i n there = there
emptied (e ∷ log) zero zero n there = cc
emptied (e ∷ log) zero (suc i) n there = there
emptied (e ∷ log) (suc p) zero n there = there
emptied (e ∷ log) (suc p) (suc i) n there = emptied log p i n there

-- a number that stands in the log is among its numbers
pub has_there : (log : List (Option ℕ)) (i n : ℕ) → slice_get log i ≡ Some (Some n) → has (logged log) n ≡ true
has_there [] i n there = cc
has_there (None ∷ log) zero n there = cc
has_there (None ∷ log) (suc i) n there = has_there log i n there
has_there (Some m ∷ log) zero n there =
    let same : n ≡ m = cc in
    rw (eq-eqb n m same) refl
has_there (Some m ∷ log) (suc i) n there = by (nat_eq n m) (has_there log i n there)
  where
    by : (b : Bool) → has (logged log) n ≡ true → (b || has (logged log) n) ≡ true
    by true rest = refl
    by false rest = rest

-- one that stands nowhere isn't
pub has_none : (log : List (Option ℕ)) (n : ℕ) → ((i : ℕ) → slice_get log i ≡ Some (Some n) → ⊥) → has (logged log) n ≡ false
has_none [] n none = refl
has_none (None ∷ log) n none = has_none log n (λ i there. none (suc i) there)
has_none (Some m ∷ log) n none = by (eqb_tells n m) (has_none log n (λ i there. none (suc i) there))
  where
    by : Tells n m → has (logged log) n ≡ false → has (logged (Some m ∷ log)) n ≡ false
    by (inl same) rest = absurd (none 0 (ap (λ (k : ℕ). Some (Some k)) (sym same.1)))
    by (inr other) rest = or_from (nat_eq n m) (has (logged log) n) other.0 rest

-- the place that is found is the number's
pub checked_at : (log : List (Option ℕ)) (n p : ℕ) (o : Option ℕ) → checked_place log n o ≡ Some p → slice_get log p ≡ Some (Some n)
checked_at log n p None is = cc
checked_at log n p (Some q) is = by (slice_get log q) refl is
  where
    by : (e : Option (Option ℕ)) → slice_get log q ≡ e → cond (is_of n e) (Some q) None ≡ Some p → slice_get log p ≡ Some (Some n)
    by None there made = cc
    by (Some None) there made = cc
    by (Some (Some m)) there made = with_number (eqb_tells n m) made
      where
        with_number : Tells n m → cond (nat_eq n m) (Some q) None ≡ Some p → slice_get log p ≡ Some (Some n)
        with_number (inl same) made =
            let here : Some q ≡ Some p = rw same.0 at made in
            let place : q ≡ p = cc in
            subst (λ k. slice_get log k ≡ Some (Some n)) place (there ∙ ap (λ (k : ℕ). Some (Some k)) (sym same.1))
        with_number (inr other) made =
            let nowhere : None ≡ Some p = rw other.0 at made in
            cc

-- the place of a number that stands in the log is found
pub found_at : (log : List (Option ℕ)) (places : List ℕ) (i n : ℕ) → ArePlaced log places → slice_get log i ≡ Some (Some n) → place_in log places n ≡ Some i
unfolding ArePlaced
found_at log places i n placed there = ap (checked_place log n) (placed i n there) ∙ ap (λ e. cond (is_of n e) (Some i) None) there ∙ ap (λ (b : Bool). cond b (Some i) None) (eq-eqb n n refl)

pub contained : (log : List (Option ℕ)) (places : List ℕ) (n : ℕ) → ArePlaced log places → is_some (place_in log places n) ≡ has (logged log) n
contained log places n placed = by (place_in log places n) refl
  where
    clash : (i : ℕ) → None ≡ place_in log places n → place_in log places n ≡ Some i → ⊥
    clash i none there = cc

    by : (o : Option ℕ) → place_in log places n ≡ o → is_some o ≡ has (logged log) n
    by None is = sym (has_none log n (λ i there. clash i (sym is) (found_at log places i n placed there)))
    by (Some p) is = sym (has_there log p n (checked_at log n p (slice_get places n) is))

-- a number of the log has a place kept for it
pub known : (log : List (Option ℕ)) (places : List ℕ) (n : ℕ) → ArePlaced log places → has (logged log) n ≡ true → n < length places
known log places n placed there = by (cases_lt n (length places))
  where
    by : (n < length places) ⊎ (length places ≤ n) → n < length places
    by (inl within) = within
    by (inr past) = absurd (true≢false (sym there ∙ sym (contained log places n placed) ∙ ap (λ o. is_some (checked_place log n o)) (slice_get_past places n past)))

-- all numbers are others, where one isn't there
pub without_none : (n : ℕ) (ns : List ℕ) → has ns n ≡ false → without n ns ≡ ns
without_none n [] none = refl
without_none n (m ∷ ns) none =
    let parts = or_parts (nat_eq n m) (has ns n) none in
    let off : nat_eq n m ≡ false = parts.0 in
    rw off (ap (λ ms. m ∷ ms) (without_none n ns parts.1))

-- an entry that is emptied takes its number out
pub without_at : (log : List (Option ℕ)) (p n : ℕ) → ((i : ℕ) → slice_get log i ≡ Some (Some n) → i ≡ p) → slice_get log p ≡ Some (Some n) → logged (set log p None) ≡ without n (logged log)
without_at [] p n once there = cc
without_at (None ∷ log) zero n once there = cc
without_at (Some m ∷ log) zero n once there =
    let same : n ≡ m = cc in
    let none : has (logged log) n ≡ false = has_none log n (λ i further. absurd (omega (arith, once (suc i) further))) in
    rw (eq-eqb n m same) (sym (without_none n (logged log) none))
without_at (None ∷ log) (suc p) n once there = without_at log p n (λ i further. omega (arith, once (suc i) further)) there
without_at (Some m ∷ log) (suc p) n once there = by (eqb_tells n m) (without_at log p n (λ i further. omega (arith, once (suc i) further)) there)
  where
    by : Tells n m → logged (set log p None) ≡ without n (logged log) → m ∷ logged (set log p None) ≡ without n (m ∷ logged log)
    by (inl same) rest = absurd (omega (arith, once 0 (ap (λ (k : ℕ). Some (Some k)) (sym same.1))))
    by (inr other) rest = rw other.0 (ap (λ ns. m ∷ ns) rest)

pub fewer_at : (log : List (Option ℕ)) (p n : ℕ) → slice_get log p ≡ Some (Some n) → suc (length (logged (set log p None))) ≡ length (logged log)
fewer_at [] p n there = cc
fewer_at (None ∷ log) zero n there = cc
fewer_at (Some m ∷ log) zero n there = refl
fewer_at (None ∷ log) (suc p) n there = fewer_at log p n there
fewer_at (Some m ∷ log) (suc p) n there = ap suc (fewer_at log p n there)

pub length_logged : (log : List (Option ℕ)) → length (logged log) ≤ length log
length_logged [] = omega arith
length_logged (None ∷ log) = let fewer = length_logged log in omega (arith, fewer)
length_logged (Some n ∷ log) = let fewer = length_logged log in omega (arith, fewer)

-- one more is the last
pub logged_last : (log : List (Option ℕ)) (n : ℕ) → logged (log ++ Some n ∷ []) ≡ logged log ++ n ∷ []
logged_last [] n = refl
logged_last (None ∷ log) n = logged_last log n
logged_last (Some m ∷ log) n = ap (λ ns. m ∷ ns) (logged_last log n)

pub once_placed : (log : List (Option ℕ)) (places : List ℕ) (i j n : ℕ) → ArePlaced log places → slice_get log i ≡ Some (Some n) → slice_get log j ≡ Some (Some n) → i ≡ j
unfolding ArePlaced
once_placed log places i j n placed here there = same (sym (placed i n here) ∙ placed j n there)
  where
    same : Some i ≡ Some j → i ≡ j
    same h = cc

pub placed_emptied : (log : List (Option ℕ)) (places : List ℕ) (p : ℕ) → ArePlaced log places → ArePlaced (set log p None) places
unfolding ArePlaced
placed_emptied log places p placed i n there = placed i n (emptied log p i n there)

pub placed_kept : (log : List (Option ℕ)) (old new : List ℕ) → ArePlaced log old → ((n p : ℕ) → slice_get old n ≡ Some p → slice_get new n ≡ Some p) → ArePlaced log new
unfolding ArePlaced
placed_kept log old new placed kept i n there = kept n i (placed i n there)

pub placed_last : (log : List (Option ℕ)) (places : List ℕ) (n : ℕ) → ArePlaced log places → has (logged log) n ≡ false → n < length places → ArePlaced (log ++ Some n ∷ []) (set places n (length log))
unfolding ArePlaced
placed_last log places n placed none within i m there = by (read_last log (Some n) i (Some m) there)
  where
    another : slice_get log i ≡ Some (Some m) → n ≡ m → ⊥
    another before same = true≢false (sym (has_there log i n (before ∙ ap (λ (k : ℕ). Some (Some k)) (sym same))) ∙ none)

    by : (slice_get log i ≡ Some (Some m)) ⊎ ((i ≡ length log) × (Some n ≡ Some m)) → slice_get (set places n (length log)) m ≡ Some i
    by (inl before) = read_other places n m (length log) (another before) ∙ placed i m before
    by (inr last) =
        let same : n ≡ m = cc in
        subst (λ k. slice_get (set places n (length log)) k ≡ Some i) same (read_same places n (length log) within ∙ ap (λ (k : ℕ). Some k) (sym last.0))

pub empty_emptied : (log : List (Option ℕ)) (k p : ℕ) → AreEmptyBelow k log → AreEmptyBelow k (set log p None)
unfolding AreEmptyBelow
empty_emptied log k p empty i below = by (cases_eq p i)
  where
    by : (p ≡ i) ⊎ (p ≡ i → ⊥) → slice_get (set log p None) i ≡ Some None
    by (inl same) = subst (λ j. slice_get (set log j None) i ≡ Some None) (sym same) (read_same log i None (slice_get_within log i None (empty i below)))
    by (inr other) = read_other log p i None other ∙ empty i below

pub empty_last : (log : List (Option ℕ)) (k : ℕ) (e : Option ℕ) → AreEmptyBelow k log → AreEmptyBelow k (log ++ e ∷ [])
unfolding AreEmptyBelow
empty_last log k e empty i below = read_more log e i None (empty i below)

pub empty_none : (log : List (Option ℕ)) → AreEmptyBelow 0 log
unfolding AreEmptyBelow
empty_none log i below = absurd (omega (arith, below))

pub placed_none : (places : List ℕ) → ArePlaced [] places
unfolding ArePlaced
placed_none places i n there = cc

-- a log without empty entries
pub logged_packed : (ns : List ℕ) → logged (map (λ n. Some n) ns) ≡ ns
logged_packed [] = refl
logged_packed (n ∷ ns) = ap (λ ms. n ∷ ms) (logged_packed ns)

pub filtered : (log : List (Option ℕ)) → filter is_some log ≡ map (λ n. Some n) (logged log)
filtered [] = refl
filtered (None ∷ log) = filtered log
filtered (Some n ∷ log) = ap (λ es. Some n ∷ es) (filtered log)

apart_once : (log : List (Option ℕ)) → ((i j n : ℕ) → slice_get log i ≡ Some (Some n) → slice_get log j ≡ Some (Some n) → i ≡ j) → AreApart (logged log)
apart_once [] once = tt
apart_once (None ∷ log) once = apart_once log (λ i j n here there. omega (arith, once (suc i) (suc j) n here there))
apart_once (Some m ∷ log) once = (has_none log m (λ i there. absurd (omega (arith, once 0 (suc i) m refl there))), apart_once log (λ i j n here there. omega (arith, once (suc i) (suc j) n here there)))

pub apart_placed : (log : List (Option ℕ)) (places : List ℕ) → ArePlaced log places → AreApart (logged log)
apart_placed log places placed = apart_once log (λ i j n here there. once_placed log places i j n placed here there)

packed_has : (ns : List ℕ) (i n : ℕ) → slice_get (map (λ k. Some k) ns) i ≡ Some (Some n) → has ns n ≡ true
packed_has ns i n there = sym (ap (λ ms. has ms n) (logged_packed ns)) ∙ has_there (map (λ k. Some k) ns) i n there

once_packed : (ns : List ℕ) (i j n : ℕ) → AreApart ns → slice_get (map (λ k. Some k) ns) i ≡ Some (Some n) → slice_get (map (λ k. Some k) ns) j ≡ Some (Some n) → i ≡ j
once_packed [] i j n apart here there = cc
once_packed (m ∷ ns) zero zero n apart here there = refl
once_packed (m ∷ ns) zero (suc j) n apart here there = absurd (twice here (packed_has ns j n there))
  where
    twice : Some (Some m) ≡ Some (Some n) → has ns n ≡ true → ⊥
    twice here has = let same : n ≡ m = cc in true≢false (sym (subst (λ k. Rattle.ctrl_events.specs.Order.has ns k ≡ true) same has) ∙ apart.0)
once_packed (m ∷ ns) (suc i) zero n apart here there = absurd (twice there (packed_has ns i n here))
  where
    twice : Some (Some m) ≡ Some (Some n) → has ns n ≡ true → ⊥
    twice there has = let same : n ≡ m = cc in true≢false (sym (subst (λ k. Rattle.ctrl_events.specs.Order.has ns k ≡ true) same has) ∙ apart.0)
once_packed (m ∷ ns) (suc i) (suc j) n apart here there = ap suc (once_packed ns i j n apart.1 here there)

-- the entries below a place are placed
abbrev pub ArePlacedBelow : ℕ → List (Option ℕ) → List ℕ → Type 0
ArePlacedBelow k log places = (i n : ℕ) → i < k → slice_get log i ≡ Some (Some n) → slice_get places n ≡ Some i

-- one more, of a log without empty entries
pub placed_more : (ns : List ℕ) (k : ℕ) (places : List ℕ) → AreApart ns → ((n : ℕ) → slice_get (map (λ n. Some n) ns) k ≡ Some (Some n) → n < length places)
    → ArePlacedBelow k (map (λ n. Some n) ns) places → ArePlacedBelow (suc k) (map (λ n. Some n) ns) (renewed k (slice_get (map (λ n. Some n) ns) k) places)
placed_more ns k places apart within below i n less there = by (slice_get log k) refl (cases_eq i k)
  where
    log : List (Option ℕ)
    log = map (λ n. Some n) ns

    by : (e : Option (Option ℕ)) → slice_get (map (λ n. Some n) ns) k ≡ e → (i ≡ k) ⊎ (i ≡ k → ⊥) → slice_get (renewed k e places) n ≡ Some i
    by None is (inl same) = let here : slice_get (map (λ n. Some n) ns) k ≡ Some (Some n) = subst (λ j. slice_get (map (λ n. Some n) ns) j ≡ Some (Some n)) same there in cc
    by None is (inr other) = below i n (omega (arith, less, other)) there
    by (Some None) is (inl same) = let here : slice_get (map (λ n. Some n) ns) k ≡ Some (Some n) = subst (λ j. slice_get (map (λ n. Some n) ns) j ≡ Some (Some n)) same there in cc
    by (Some None) is (inr other) = below i n (omega (arith, less, other)) there
    by (Some (Some m)) is (inl same) =
        let here : slice_get (map (λ n. Some n) ns) k ≡ Some (Some n) = subst (λ j. slice_get (map (λ n. Some n) ns) j ≡ Some (Some n)) same there in
        let number : m ≡ n = cc in
        subst (λ q. slice_get (set places q k) n ≡ Some i) (sym number) (read_same places n k (within n here) ∙ ap (λ (j : ℕ). Some j) (sym same))
    by (Some (Some m)) is (inr other) = read_other places m n k (λ number. other (once_packed ns i k n apart there (is ∙ ap (λ (q : ℕ). Some (Some q)) number))) ∙ below i n (omega (arith, less, other)) there

pub placed_all : (log : List (Option ℕ)) (k : ℕ) (places : List ℕ) → length log ≤ k → ArePlacedBelow k log places → ArePlaced log places
unfolding ArePlaced
placed_all log k places all below i n there = let within = slice_get_within log i (Some n) there in below i n (omega (arith, within, all)) there

pub length_renewed : (k : ℕ) (e : Option (Option ℕ)) (places : List ℕ) → length (renewed k e places) ≡ length places
length_renewed k None places = refl
length_renewed k (Some None) places = refl
length_renewed k (Some (Some n)) places = length_set places n k
  where
    length_set : (xs : List ℕ) (i x : ℕ) → length (set xs i x) ≡ length xs
    length_set [] i x = refl
    length_set (y ∷ xs) zero x = refl
    length_set (y ∷ xs) (suc i) x = ap suc (length_set xs i x)

-- a number of a packed log has a place kept for it
pub packed_known : (log : List (Option ℕ)) (places : List ℕ) (k n : ℕ) → ArePlaced log places → slice_get (map (λ n. Some n) (logged log)) k ≡ Some (Some n) → n < length places
packed_known log places k n placed there = known log places n placed (packed_has (logged log) k n there)

-- taking a number out whose place was found
pub out_members : (log : List (Option ℕ)) (places : List ℕ) (n p : ℕ) → ArePlaced log places → place_in log places n ≡ Some p → logged (set log p None) ≡ without n (logged log)
out_members log places n p placed found =
    let there = checked_at log n p (slice_get places n) found in
    without_at log p n (λ i other. once_placed log places i p n placed other there) there

pub out_counted : (log : List (Option ℕ)) (places : List ℕ) (n p count : ℕ) → place_in log places n ≡ Some p → count ≡ length (logged log) → count - 1 ≡ length (logged (set log p None))
out_counted log places n p count found counted =
    let fewer = fewer_at log p n (checked_at log n p (slice_get places n) found) in
    omega (arith, fewer, counted)

pub out_none : (log : List (Option ℕ)) (places : List ℕ) (n : ℕ) → ArePlaced log places → None ≡ place_in log places n → without n (logged log) ≡ logged log
out_none log places n placed none = without_none n (logged log) (sym (contained log places n placed) ∙ ap is_some (sym none))

-- numbers in order with the same parts
pub order_is : (ms ns : List ℕ) (b c r q : ℕ) → ms ≡ ns → b ≡ c → r ≡ q → ◌≡◌ {A = OrderData} (record { members = ms; bound = b; room = r }) (record { members = ns; bound = c; room = q })
order_is ms ns b c r q members bound room = λ i. record { members = members i; bound = bound i; room = room i }

-- what holds anyway holds where a result is good
pub whenever : {T F : Type 0} (r : Result T F) (P : Type 0) → P → OnOk r P
whenever (Ok x) P holds = holds
whenever (Err e) P holds = tt

-- what stands behind empty entries
pub rest_of : (log : List (Option ℕ)) (k : ℕ) → AreEmptyBelow k log → logged (drop k log) ≡ logged log
unfolding AreEmptyBelow
rest_of log zero empty = refl
rest_of [] (suc k) empty = refl
rest_of (None ∷ log) (suc k) empty = rest_of log k (λ i below. empty (suc i) (omega (arith, below)))
rest_of (Some n ∷ log) (suc k) empty = absurd (full (empty 0 (omega arith)))
  where
    full : Some (Some n) ≡ Some None → ⊥
    full h = cc

-- they are no more than all
pub within_log : (log : List (Option ℕ)) (k : ℕ) → AreEmptyBelow k log → k ≤ length log
unfolding AreEmptyBelow
within_log log zero empty = omega arith
within_log log (suc k) empty = let less = slice_get_within log k None (empty k (omega arith)) in omega (arith, less)

pub nothing_at : (log : List (Option ℕ)) (p : ℕ) → None ≡ entry_number (slice_get log p) → is_empty_entry (slice_get log p) ≡ false → logged (drop p log) ≡ []
nothing_at [] zero none full = refl
nothing_at [] (suc p) none full = refl
nothing_at (None ∷ log) zero none full = absurd (true≢false full)
nothing_at (Some n ∷ log) zero none full = cc
nothing_at (e ∷ log) (suc p) none full = nothing_at log p none full

-- the first number, once its entry is emptied
pub emptied_first : (log : List (Option ℕ)) (p n : ℕ) → AreEmptyBelow p log → slice_get log p ≡ Some (Some n) → logged log ≡ n ∷ logged (set log p None)
unfolding AreEmptyBelow
emptied_first [] p n empty there = cc
emptied_first (None ∷ log) zero n empty there = cc
emptied_first (Some m ∷ log) zero n empty there = let same : m ≡ n = cc in ap (λ (k : ℕ). k ∷ logged log) same
emptied_first (None ∷ log) (suc p) n empty there = emptied_first log p n (λ i below. empty (suc i) (omega (arith, below))) there
emptied_first (Some m ∷ log) (suc p) n empty there = absurd (full (empty 0 (omega arith)))
  where
    full : Some (Some m) ≡ Some None → ⊥
    full h = cc

pub empty_up : (log : List (Option ℕ)) (from to : ℕ) → AreEmptyBelow from log → ((i : ℕ) → from ≤ i → i < to → slice_get log i ≡ Some None) → AreEmptyBelow to log
unfolding AreEmptyBelow
empty_up log from to before passed i below = by (cases_lt i from)
  where
    by : (i < from) ⊎ (from ≤ i) → slice_get log i ≡ Some None
    by (inl less) = before i less
    by (inr more) = passed i more below

pub empty_one_more : (log : List (Option ℕ)) (p n : ℕ) → AreEmptyBelow p log → slice_get log p ≡ Some (Some n) → AreEmptyBelow (suc p) (set log p None)
unfolding AreEmptyBelow
empty_one_more log p n empty there i below = by (cases_eq p i)
  where
    by : (p ≡ i) ⊎ (p ≡ i → ⊥) → slice_get (set log p None) i ≡ Some None
    by (inl same) = subst (λ j. slice_get (set log p None) j ≡ Some None) same (read_same log p None (slice_get_within log p (Some n) there))
    by (inr other) = read_other log p i None other ∙ empty i (omega (arith, below, other))

pub number_there : (e : Option (Option ℕ)) (n : ℕ) → Some n ≡ entry_number e → e ≡ Some (Some n)
number_there None n is = cc
number_there (Some o) n is = ap (λ (x : Option ℕ). Some x) (sym is)

-- an empty entry is passed over
pub passed_over : (log : List (Option ℕ)) (k : ℕ) → is_empty_entry (slice_get log k) ≡ true → logged (drop (suc k) log) ≡ logged (drop k log)
passed_over [] zero empty = refl
passed_over [] (suc k) empty = refl
passed_over (None ∷ log) zero empty = refl
passed_over (Some n ∷ log) zero empty = absurd (true≢false (sym empty))
passed_over (e ∷ log) (suc k) empty = passed_over log k empty

pub empty_there : (e : Option (Option ℕ)) → is_empty_entry e ≡ true → e ≡ Some None
empty_there None empty = absurd (true≢false (sym empty))
empty_there (Some None) empty = refl
empty_there (Some (Some n)) empty = absurd (true≢false (sym empty))

-- beyond all there is none
pub none_beyond : (log : List (Option ℕ)) (k : ℕ) → length log ≤ k → is_empty_entry (slice_get log k) ≡ false
none_beyond log k beyond = ap is_empty_entry (slice_get_past log k beyond)

-- the first number is taken out
pub record IsFirstTaken (log : List (Option ℕ)) (p n : ℕ) : Type 0 where
  pub passed : AreEmptyBelow (suc p) (set log p None)
  pub fewer : suc (length (logged (set log p None))) ≡ length (logged log)
  pub split : logged log ≡ n ∷ logged (set log p None)

pub first_taken : (log : List (Option ℕ)) (first p n : ℕ) → AreEmptyBelow first log → ((i : ℕ) → first ≤ i → i < p → slice_get log i ≡ Some None) → Some n ≡ entry_number (slice_get log p) → IsFirstTaken log p n
first_taken log first p n before passed number =
    let there : slice_get log p ≡ Some (Some n) = number_there (slice_get log p) n number in
    let empty : AreEmptyBelow p log = empty_up log first p before passed in
    record {
      passed = empty_one_more log p n empty there;
      fewer = fewer_at log p n there;
      split = emptied_first log p n empty there;
    }

-- there is no first number
pub none_first : (log : List (Option ℕ)) (first p : ℕ) → AreEmptyBelow first log → logged (drop p log) ≡ logged (drop first log) → is_empty_entry (slice_get log p) ≡ false → None ≡ entry_number (slice_get log p) → logged log ≡ []
none_first log first p before rest full none = sym (rest_of log first before) ∙ sym rest ∙ nothing_at log p none full

-- the last number stands behind all others
last_put : (log : List (Option ℕ)) (p n : ℕ) → suc p ≡ length log → slice_get log p ≡ Some (Some n) → logged log ≡ logged (set log p None) ++ n ∷ []
last_put [] p n last there = cc
last_put (None ∷ log) zero n last there = cc
last_put (Some m ∷ []) zero n last there = let same : m ≡ n = cc in ap (λ (k : ℕ). k ∷ []) same
last_put (Some m ∷ e ∷ log) zero n last there = absurd (omega (arith, last))
last_put (None ∷ log) (suc p) n last there = last_put log p n (omega (arith, last)) there
last_put (Some m ∷ log) (suc p) n last there = ap (λ ns. m ∷ ns) (last_put log p n (omega (arith, last)) there)

pub last_stays : (log : List (Option ℕ)) (places : List ℕ) (p n : ℕ) → ArePlaced log places → suc p ≡ length log → slice_get log p ≡ Some (Some n) → logged log ≡ without n (logged log) ++ n ∷ []
last_stays log places p n placed last there = last_put log p n last there ∙ ap (λ ns. ns ++ n ∷ []) (without_at log p n (λ i other. once_placed log places i p n placed other there) there)

-- an entry that is of a number is the number's
pub entry_is : (e : Option (Option ℕ)) (n : ℕ) → is_of n e ≡ true → e ≡ Some (Some n)
entry_is None n is = absurd (true≢false (sym is))
entry_is (Some None) n is = absurd (true≢false (sym is))
entry_is (Some (Some m)) n is = by (eqb_tells n m) is
  where
    by : Tells n m → nat_eq n m ≡ true → Some (Some m) ≡ Some (Some n)
    by (inl same) is = ap (λ (k : ℕ). Some (Some k)) (sym same.1)
    by (inr other) is = absurd (true≢false (sym is ∙ other.0))

pub whenever_not : {T F : Type 0} (r : Result T F) (P : Type 0) → P → OnErr r P
whenever_not (Ok x) P holds = tt
whenever_not (Err e) P holds = holds
