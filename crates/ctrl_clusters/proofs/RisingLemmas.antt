-- Rising numbers below another: which are among them, how many, and one that is put among them or taken out.
use Rattle.std.proofs.Common.{◌≡◌, ◌≢◌, ◌∙◌, ◌<◌, ◌≤◌, ◌+◌, ◌++◌, ◌==◌, ◌⊎◌, ◌&&◌, ◌||◌, ℕ, zero, suc, add-one, length-append, eq-eqb, nat_eq, nat_lt, Bool, true, false, not, cond, List, [], ◌∷◌, length, filter, count_by, inl, inr, refl, sym, ap, arith}
use Rattle.std.specs.List.{All, list_any, range_with_len, insert}
use Rattle.std.proofs.lemmas.Bool.{lt-ltb, le-ltb}
use Rattle.std.proofs.lemmas.Bool.Decides.{eqb_tells}
use Rattle.std.proofs.lemmas.List.{append-nil, map-id}
use Rattle.std.proofs.lemmas.List.Edits.{insert_end, length-insert, insert-append_left}
use Rattle.std.proofs.lemmas.List.Elements.{All-head, All-tail, filter-append}
use Rattle.std.proofs.lemmas.List.FromFn.{map-range_with_len_more}
use Rattle.std.proofs.lemmas.List.Sums.{length-filter, sum_by-append, sum_by-cons, count_by-le-length}
use Rattle.std.proofs.lemmas.Map.Views.{any-filter_same}
use Rattle.ctrl_clusters.proofs.NewRowLemmas.{not_equal}
use Rattle.ctrl_clusters.proofs.OverlayLemmas.{or_true, or_true_right}
use Rattle.ctrl_clusters.specs.Rising.{AreRisingBelow, others, with_all, with_or_without}

range_more : (n : ℕ) → range_with_len 0 (n + 1) ≡ range_with_len 0 n ++ n ∷ []
range_more n = sym (map-id (range_with_len 0 (n + 1))) ∙ map-range_with_len_more (λ k. k) 0 n n (omega arith) ∙ ap (λ ks. ks ++ n ∷ []) (map-id (range_with_len 0 n))

-- one more number passes a test, or doesn't
pub filter_next : (p : ℕ → Bool) (n : ℕ) (b : Bool) → p n ≡ b → filter p (range_with_len 0 (n + 1)) ≡ filter p (range_with_len 0 n) ++ cond b (n ∷ []) []
filter_next p n b is = ap (filter p) (range_more n) ∙ filter-append p (range_with_len 0 n) (n ∷ []) ∙ ap (λ t. filter p (range_with_len 0 n) ++ cond t (n ∷ []) []) is

-- and one more counts, or doesn't
pub count_next : (p : ℕ → Bool) (n : ℕ) → count_by p (range_with_len 0 (n + 1)) ≡ count_by p (range_with_len 0 n) + cond (p n) 1 0
count_next p n = ap (count_by p) (range_more n) ∙ sum_by-append one (range_with_len 0 n) (n ∷ []) ∙ ap (λ m. count_by p (range_with_len 0 n) + m) (sum_by-cons one n [] ∙ omega arith)
  where
    one : ℕ → ℕ
    one k = cond (p k) 1 0

-- the numbers below another at which a test passes
abbrev pub passing : (ℕ → Bool) → ℕ → List ℕ
passing p n = filter p (range_with_len 0 n)

-- one more is tested
pub passing_more : (p : ℕ → Bool) (n : ℕ) → passing p (suc n) ≡ passing p n ++ cond (p n) (n ∷ []) []
passing_more p n = ap (passing p) (sym (add-one n)) ∙ filter_next p n (p n) refl

-- tests that agree pass the same
pub passing_same : (p q : ℕ → Bool) (n : ℕ) → ((k : ℕ) → k < n → p k ≡ q k) → passing p n ≡ passing q n
passing_same p q zero same = refl
passing_same p q (suc n) same =
    passing_more p n ∙ ap (λ (b : Bool). passing p n ++ cond b (n ∷ []) []) (same n (omega arith))
    ∙ ap (λ (ks : List ℕ). ks ++ cond (q n) (n ∷ []) []) (passing_same p q n (λ k lt. same k (omega (arith, lt)))) ∙ sym (passing_more q n)

counted_more : (p : ℕ → Bool) (n : ℕ) → count_by p (range_with_len 0 (suc n)) ≡ count_by p (range_with_len 0 n) + cond (p n) 1 0
counted_more p n = ap (λ m. count_by p (range_with_len 0 m)) (sym (add-one n)) ∙ count_next p n

-- a test that passes wherever another does passes as often at least
pub counted_below : (p q : ℕ → Bool) (n : ℕ) → ((k : ℕ) → k < n → p k ≡ true → q k ≡ true) → count_by p (range_with_len 0 n) ≤ count_by q (range_with_len 0 n)
counted_below p q zero more = omega arith
counted_below p q (suc n) more = by (p n) refl (q n) refl (counted_below p q n (λ k lt. more k (omega (arith, lt))))
  where
    by : (b : Bool) → p n ≡ b → (c : Bool) → q n ≡ c → count_by p (range_with_len 0 n) ≤ count_by q (range_with_len 0 n) → count_by p (range_with_len 0 (suc n)) ≤ count_by q (range_with_len 0 (suc n))
    by false e c f rest =
        let first : count_by p (range_with_len 0 (suc n)) ≡ count_by p (range_with_len 0 n) + 0 = rw e at (counted_more p n) in
        omega (arith, rest, first, counted_more q n)
    by true e true f rest =
        let first : count_by p (range_with_len 0 (suc n)) ≡ count_by p (range_with_len 0 n) + 1 = rw e at (counted_more p n) in
        let second : count_by q (range_with_len 0 (suc n)) ≡ count_by q (range_with_len 0 n) + 1 = rw f at (counted_more q n) in
        omega (arith, rest, first, second)
    by true e false f rest = absurd (clash (sym (more n (omega arith) e) ∙ f))
      where
        clash : true ≡ false → ⊥
        clash h = cc

-- so that no fewer pass
pub passing_below : (p q : ℕ → Bool) (n : ℕ) → ((k : ℕ) → k < n → p k ≡ true → q k ≡ true) → length (passing p n) ≤ length (passing q n)
passing_below p q n more = omega (arith, length-filter p (range_with_len 0 n), length-filter q (range_with_len 0 n), counted_below p q n more)

in_range : (k a n : ℕ) → a ≤ k → k < a + n → list_any (nat_eq k) (range_with_len a n) ≡ true
in_range k a zero from below = absurd (omega (arith, from, below))
in_range k a (suc n) from below = by (eqb_tells k a) (λ further. in_range k (a + 1) n further (omega (arith, below)))
  where
    by : ((k == a) ≡ true × (k ≡ a)) ⊎ ((k == a) ≡ false × (k ≢ a)) → (a + 1 ≤ k → list_any (nat_eq k) (range_with_len (a + 1) n) ≡ true) → list_any (nat_eq k) (range_with_len a (suc n)) ≡ true
    by (inl e) rest = or_true (nat_eq k a) (list_any (nat_eq k) (range_with_len (a + 1) n)) e.0
    by (inr e) rest = or_true_right (nat_eq k a) (list_any (nat_eq k) (range_with_len (a + 1) n)) (rest (omega (arith, from, e.1)))

-- those among them are those at which the test passes
pub among_passing : (p : ℕ → Bool) (n k : ℕ) → k < n → list_any (nat_eq k) (passing p n) ≡ p k
among_passing p n k lt =
    any-filter_same (nat_eq k) p (p k) (λ j is. same j (eqb_tells k j) is) (range_with_len 0 n)
    ∙ ap (λ (b : Bool). p k && b) (in_range k 0 n (omega arith) (omega (arith, lt))) ∙ whole (p k)
  where
    same : (j : ℕ) → ((k == j) ≡ true × (k ≡ j)) ⊎ ((k == j) ≡ false × (k ≢ j)) → nat_eq k j ≡ true → p j ≡ p k
    same j (inl e) is = ap p (sym e.1)
    same j (inr e) is = absurd (clash (sym is ∙ e.0))
      where
        clash : true ≡ false → ⊥
        clash h = cc

    whole : (b : Bool) → (b && true) ≡ b
    whole true = refl
    whole false = refl

-- two tests in turn are one
pub filter_both : (p q : ℕ → Bool) (ks : List ℕ) → filter q (filter p ks) ≡ filter (λ j. p j && q j) ks
filter_both p q [] = refl
filter_both p q (k ∷ ks) = by (p k) (filter_both p q ks)
  where
    by : (b : Bool) → filter q (filter p ks) ≡ filter (λ j. p j && q j) ks → filter q (cond b (k ∷ filter p ks) (filter p ks)) ≡ cond (b && q k) (k ∷ filter (λ j. p j && q j) ks) (filter (λ j. p j && q j) ks)
    by true rest = ap (λ (js : List ℕ). cond (q k) (k ∷ js) js) rest
    by false rest = rest

-- a test that passes at one number besides, or no more
abbrev pub with_at : (ℕ → Bool) → ℕ → Bool → ℕ → Bool
with_at p k b j = cond (nat_eq k j) b (p j)

-- the others pass a test that fails at the number
pub others_pass : (p : ℕ → Bool) (k n : ℕ) → others k (passing p n) ≡ passing (with_at p k false) n
others_pass p k n = filter_both p (λ j. not (nat_eq k j)) (range_with_len 0 n) ∙ passing_same (λ j. p j && not (nat_eq k j)) (with_at p k false) n (λ j lt. by (p j) (nat_eq k j))
  where
    by : (b c : Bool) → (b && not c) ≡ cond c false b
    by true true = refl
    by true false = refl
    by false true = refl
    by false false = refl

counted_append : (q : ℕ → Bool) (xs ys : List ℕ) → count_by q (xs ++ ys) ≡ count_by q xs + count_by q ys
counted_append q xs ys = sum_by-append (λ j. cond (q j) 1 0) xs ys

counted_one : (q : ℕ → Bool) (m : ℕ) → count_by q (m ∷ []) ≡ cond (q m) 1 0
counted_one q m = sum_by-cons (λ j. cond (q j) 1 0) m [] ∙ omega arith

-- all of them are below a number
all_below : (p : ℕ → Bool) (k m : ℕ) → m ≤ k → count_by (λ j. nat_lt j k) (passing p m) ≡ length (passing p m)
all_below p k zero le = refl
all_below p k (suc m) le = by (p m) refl (all_below p k m (omega (arith, le)))
  where
    below : ℕ → Bool
    below j = nat_lt j k

    by : (b : Bool) → p m ≡ b → count_by (λ j. nat_lt j k) (passing p m) ≡ length (passing p m) → count_by (λ j. nat_lt j k) (passing p (suc m)) ≡ length (passing p (suc m))
    by false e rest = let same : passing p (suc m) ≡ passing p m = passing_more p m ∙ ap (λ (b : Bool). passing p m ++ cond b (m ∷ []) []) e ∙ append-nil (passing p m) in rw same rest
    by true e rest =
        let same : passing p (suc m) ≡ passing p m ++ m ∷ [] = passing_more p m ∙ ap (λ (b : Bool). passing p m ++ cond b (m ∷ []) []) e in
        let one : count_by below (m ∷ []) ≡ 1 = counted_one below m ∙ ap (λ (b : Bool). cond b 1 0) (lt-ltb m k (omega (arith, le))) in
        ap (count_by below) same ∙ omega (arith, counted_append below (passing p m) (m ∷ []), one, rest, ap length same, length-append (passing p m) (m ∷ []))

-- one more that isn't below the number is counted no more
not_below : (p : ℕ → Bool) (k m : ℕ) → k ≤ m → count_by (λ j. nat_lt j k) (passing p (suc m)) ≡ count_by (λ j. nat_lt j k) (passing p m)
not_below p k m le = by (p m) refl
  where
    below : ℕ → Bool
    below j = nat_lt j k

    by : (b : Bool) → p m ≡ b → count_by (λ j. nat_lt j k) (passing p (suc m)) ≡ count_by (λ j. nat_lt j k) (passing p m)
    by false e = ap (count_by below) (passing_more p m ∙ ap (λ (b : Bool). passing p m ++ cond b (m ∷ []) []) e ∙ append-nil (passing p m))
    by true e =
        let none : count_by below (m ∷ []) ≡ 0 = counted_one below m ∙ ap (λ (b : Bool). cond b 1 0) (le-ltb m k le) in
        ap (count_by below) (passing_more p m ∙ ap (λ (b : Bool). passing p m ++ cond b (m ∷ []) []) e) ∙ omega (arith, counted_append below (passing p m) (m ∷ []), none)

-- a number is put in its place
put : (q : ℕ → Bool) (k n : ℕ) → k < n → q k ≡ false → insert (passing q n) (count_by (λ j. nat_lt j k) (passing q n)) k ≡ passing (with_at q k true) n
put q k zero lt out = absurd (omega (arith, lt))
put q k (suc m) lt out = by (eqb_tells k m) (λ less. put q k m less out)
  where
    by : ((k == m) ≡ true × (k ≡ m)) ⊎ ((k == m) ≡ false × (k ≢ m)) → (k < m → insert (passing q m) (count_by (λ j. nat_lt j k) (passing q m)) k ≡ passing (with_at q k true) m)
        → insert (passing q (suc m)) (count_by (λ j. nat_lt j k) (passing q (suc m))) k ≡ passing (with_at q k true) (suc m)
    by (inl e) rest =
        let same : passing q (suc m) ≡ passing q m = passing_more q m ∙ ap (λ (b : Bool). passing q m ++ cond b (m ∷ []) []) (ap q (sym e.1) ∙ out) ∙ append-nil (passing q m) in
        let all : count_by (λ j. nat_lt j k) (passing q (suc m)) ≡ length (passing q m) = ap (count_by (λ j. nat_lt j k)) same ∙ all_below q k m (omega (arith, e.1)) in
        let apart : passing q m ≡ passing (with_at q k true) m = passing_same q (with_at q k true) m (λ j less. sym (rw (not_equal k j (λ f. absurd (omega (arith, less, f, e.1)))) refl)) in
        ap (λ (ks : List ℕ). insert ks (count_by (λ j. nat_lt j k) (passing q (suc m))) k) same ∙ ap (λ (i : ℕ). insert (passing q m) i k) all ∙ insert_end (passing q m) k
        ∙ ap (λ (ks : List ℕ). ks ++ k ∷ []) apart ∙ ap (λ (j : ℕ). passing (with_at q k true) m ++ j ∷ []) e.1
        ∙ sym (passing_more (with_at q k true) m ∙ ap (λ (b : Bool). passing (with_at q k true) m ++ cond b (m ∷ []) []) (ap (λ (b : Bool). cond b true (q m)) e.0))
    by (inr e) rest =
        let fewer : count_by (λ j. nat_lt j k) (passing q m) ≤ length (passing q m) = count_by-le-length (λ j. nat_lt j k) (passing q m) in
        ap (λ (ks : List ℕ). insert ks (count_by (λ j. nat_lt j k) (passing q (suc m))) k) (passing_more q m)
        ∙ ap (λ (i : ℕ). insert (passing q m ++ cond (q m) (m ∷ []) []) i k) (not_below q k m (omega (arith, lt)))
        ∙ insert-append_left (passing q m) (cond (q m) (m ∷ []) []) (count_by (λ j. nat_lt j k) (passing q m)) k fewer
        ∙ ap (λ (ks : List ℕ). ks ++ cond (q m) (m ∷ []) []) (rest (omega (arith, lt, e.1)))
        ∙ sym (passing_more (with_at q k true) m ∙ ap (λ (b : Bool). passing (with_at q k true) m ++ cond b (m ∷ []) []) (ap (λ (b : Bool). cond b true (q m)) e.0))

-- rising numbers, where one is put among them or taken out
pub marked_passing : (p : ℕ → Bool) (k n : ℕ) (b : Bool) → k < n → with_or_without k b (passing p n) ≡ passing (with_at p k b) n
marked_passing p k n false lt = others_pass p k n
marked_passing p k n true lt =
    ap (λ (ks : List ℕ). insert ks (count_by (λ j. nat_lt j k) ks) k) (others_pass p k n)
    ∙ put (with_at p k false) k n lt (ap (λ (b : Bool). cond b false (p k)) (eq-eqb k k refl))
    ∙ passing_same (with_at (with_at p k false) k true) (with_at p k true) n (λ j less. by (nat_eq k j) (p j))
  where
    by : (b c : Bool) → cond b true (cond b false c) ≡ cond b true c
    by true c = refl
    by false c = refl

-- a number that is put among others needs room for one more at most
pub length_marked : (k : ℕ) (ks : List ℕ) → length (with_or_without k true ks) ≤ length ks + 1
length_marked k ks =
    let place : count_by (λ j. nat_lt j k) (others k ks) ≤ length (others k ks) = count_by-le-length (λ j. nat_lt j k) (others k ks) in
    omega (arith, length-insert (others k ks) (count_by (λ j. nat_lt j k) (others k ks)) k place, fewer)
  where
    other : ℕ → Bool
    other j = not (nat_eq k j)

    fewer : length (others k ks) ≤ length ks
    fewer = omega (arith, length-filter other ks, count_by-le-length other ks)

-- some numbers are put among them
pub all_marked : (p : ℕ → Bool) (js : List ℕ) (n : ℕ) → All (λ j. j < n) js → with_all js (passing p n) ≡ passing (λ k. p k || list_any (nat_eq k) js) n
all_marked p [] n below = passing_same p (λ k. p k || false) n (λ k lt. by (p k))
  where
    by : (b : Bool) → b ≡ (b || false)
    by true = refl
    by false = refl
all_marked p (j ∷ js) n below =
    ap (with_all js) (marked_passing p j n true (All-head (λ i. i < n) j js below))
    ∙ all_marked (with_at p j true) js n (All-tail (λ i. i < n) j js below)
    ∙ passing_same (λ k. with_at p j true k || list_any (nat_eq k) js) (λ k. p k || list_any (nat_eq k) (j ∷ js)) n (λ k lt. either k (eqb_tells j k))
  where
    joined : (a c : Bool) → true ≡ (a || (true || c))
    joined true c = refl
    joined false c = refl

    either : (k : ℕ) → ((j == k) ≡ true × (j ≡ k)) ⊎ ((j == k) ≡ false × (j ≢ k)) → (cond (nat_eq j k) true (p k) || list_any (nat_eq k) js) ≡ (p k || (nat_eq k j || list_any (nat_eq k) js))
    either k (inl own) =
        ap (λ (b : Bool). cond b true (p k) || list_any (nat_eq k) js) own.0 ∙ joined (p k) (list_any (nat_eq k) js)
        ∙ sym (ap (λ (b : Bool). p k || (b || list_any (nat_eq k) js)) (eq-eqb k j (sym own.1)))
    either k (inr other) =
        ap (λ (b : Bool). cond b true (p k) || list_any (nat_eq k) js) other.0
        ∙ sym (ap (λ (b : Bool). p k || (b || list_any (nat_eq k) js)) (not_equal k j (λ e. other.1 (sym e))))

-- which numbers are among rising ones where one is put among them or taken out
pub marked_among : (n k j : ℕ) (b : Bool) (ks : List ℕ) → AreRisingBelow n ks → k < n → j < n → list_any (nat_eq j) (with_or_without k b ks) ≡ cond (nat_eq k j) b (list_any (nat_eq j) ks)
marked_among n k j b ks rising lt less =
    ap (λ (l : List ℕ). list_any (nat_eq j) (with_or_without k b l)) rising.1 ∙ ap (list_any (nat_eq j)) (marked_passing rising.0 k n b lt) ∙ among_passing (with_at rising.0 k b) n j less
    ∙ ap (cond (nat_eq k j) b) (sym (ap (list_any (nat_eq j)) rising.1 ∙ among_passing rising.0 n j less))

-- they are rising still
pub marked_rising : (n k : ℕ) (b : Bool) (ks : List ℕ) → AreRisingBelow n ks → k < n → AreRisingBelow n (with_or_without k b ks)
marked_rising n k b ks rising lt = (with_at rising.0 k b, ap (with_or_without k b) rising.1 ∙ marked_passing rising.0 k n b lt)
