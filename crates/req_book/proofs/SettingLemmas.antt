-- What a request asks for, control by control.
use Rattle.std.proofs.Common.{◌≡◌, ℕ, ◌+◌, ◌-◌, ◌∙◌, ◌==◌, true, false, ◌<◌, List, [], ◌∷◌, ◌++◌, length, map, take, slice_set, get_or, subst, filter_map, Option, None, Some, refl, sym, ap, zero, suc, inl, inr, ◌⊎◌, ◌≢◌, ◌≤◌, unwrap_or, slice_index_or, if◌then◌else◌, is_some, leb, true≢false, arith}
use Rattle.std.specs.List.{All, cons_option, range_with_len}
use Rattle.std.specs.Option.{option_or}
use Rattle.std.proofs.lemmas.Bool.Decides.{eqb_tells, leb_tells}
use Rattle.std.proofs.lemmas.List.{append-nil, map-id, take_more_set, take_all, length-set, get_or-set_same, get_or-set_other}
use Rattle.std.proofs.lemmas.List.Elements.{All-nil, All-cons, filter_map-append}
use Rattle.std.proofs.lemmas.List.FromFn.{map-range_with_len_more, length-map-range_with_len, get_or-map-range_with_len, fill_by_all}
use Rattle.ctrl_types.specs.Values.{zero_value}
use Rattle.ctrl_types.specs.declared.value.CtrlValue.{CtrlValue}
use Rattle.ctrl_types.specs.Pairs.{last_value}
use Rattle.ctrl_types.specs.declared.ids.Pair.{Pair}
use Rattle.req_book.specs.Named.{IsNextNamed}
use Rattle.req_book.specs.Requests.{pair_of, latest, snapshot_of}

or_or : (a b d : Option CtrlValue) → option_or (option_or a b) d ≡ option_or a (option_or b d)
or_or None b d = refl
or_or (Some x) b d = refl

or_none : (a : Option CtrlValue) → a ≡ option_or a None
or_none None = refl
or_none (Some x) = refl

-- of pairs behind others the last counts
pub last_append : (pairs more : List Pair) (c : ℕ) → last_value (pairs ++ more) c ≡ option_or (last_value more c) (last_value pairs c)
last_append [] more c = or_none (last_value more c)
last_append (p ∷ pairs) more c =
    ap (λ (o : Option CtrlValue). option_or o (if p.control == c then Some p.value else None)) (last_append pairs more c)
    ∙ or_or (last_value more c) (last_value pairs c) (if p.control == c then Some p.value else None)

range_more : (a n : ℕ) → range_with_len a (n + 1) ≡ range_with_len a n ++ (a + n) ∷ []
range_more a n = sym (map-id (range_with_len a (n + 1))) ∙ map-range_with_len_more (λ k. k) a n (a + n) refl ∙ ap (λ ks. ks ++ (a + n) ∷ []) (map-id (range_with_len a n))

-- one more control
pub filter_more : {X : Type 0} (f : ℕ → Option X) (k : ℕ) → filter_map f (range_with_len 0 (k + 1)) ≡ filter_map f (range_with_len 0 k) ++ cons_option (f k) []
filter_more f k = ap (filter_map f) (range_more 0 k) ∙ ap (λ i. filter_map f (range_with_len 0 k ++ i ∷ [])) (omega arith) ∙ filter_map-append f (range_with_len 0 k) (k ∷ [])

-- one more item is set
pub map_more : {X : Type 0} (xs : List X) (k : ℕ) (y : X) (f : ℕ → X) → k < length xs → take k xs ≡ map f (range_with_len 0 k) → y ≡ f k → take (k + 1) (slice_set xs k y) ≡ map f (range_with_len 0 (k + 1))
map_more xs k y f lt so_far is = take_more_set xs k y lt ∙ ap (λ ys. ys ++ y ∷ []) so_far ∙ ap (λ x. map f (range_with_len 0 k) ++ x ∷ []) is ∙ sym (map-range_with_len_more f 0 k k (omega arith))

-- all items are set
pub map_all : {X : Type 0} (xs : List X) (k n : ℕ) (f : ℕ → X) → take k xs ≡ map f (range_with_len 0 k) → length xs ≡ k → n ≡ k → xs ≡ map f (range_with_len 0 n)
map_all xs k n f so_far long is = sym (take_all k xs (omega (arith, long))) ∙ so_far ∙ ap (λ m. map f (range_with_len 0 m)) (sym is)

-- the pairs of the controls so far, and the next one's, where it has one
pub pairs_more : (f : ℕ → Option Pair) (k : ℕ) (so_far all : List Pair) (next : Option Pair) → so_far ≡ filter_map f (range_with_len 0 k) → next ≡ f k → all ≡ so_far ++ cons_option next [] → all ≡ filter_map f (range_with_len 0 (k + 1))
pairs_more f k so_far all next same is more = more ∙ ap (λ ps. ps ++ cons_option next []) same ∙ ap (λ (o : Option Pair). filter_map f (range_with_len 0 k) ++ cons_option o []) is ∙ sym (filter_more f k)

-- controls that have nothing add none
filter_skip : {X : Type 0} (f : ℕ → Option X) (k d : ℕ) → ((c : ℕ) → k ≤ c → c < k + d → f c ≡ None) → filter_map f (range_with_len 0 (k + d)) ≡ filter_map f (range_with_len 0 k)
filter_skip f k zero none = ap (λ i. filter_map f (range_with_len 0 i)) (omega arith)
filter_skip f k (suc d) none =
    ap (λ i. filter_map f (range_with_len 0 i)) (omega arith)
    ∙ filter_more f (k + d)
    ∙ ap (λ o. filter_map f (range_with_len 0 (k + d)) ++ cons_option o []) (none (k + d) (omega arith) (omega arith))
    ∙ append-nil (filter_map f (range_with_len 0 (k + d)))
    ∙ filter_skip f k d (λ c no_less below. none c no_less (omega (arith, below)))

-- the pairs of the controls below the next one that is given a value
pub pairs_past : (pairs : List Pair) (from end next : ℕ) (so_far : List Pair) → IsNextNamed pairs from end next → so_far ≡ filter_map (λ c. pair_of c (last_value pairs c)) (range_with_len 0 from)
    → so_far ≡ filter_map (λ c. pair_of c (last_value pairs c)) (range_with_len 0 next)
pairs_past pairs from end next so_far is same =
    let f : ℕ → Option Pair = λ c. pair_of c (last_value pairs c) in
    same
    ∙ sym (filter_skip f from (next - from) (λ c no_less below. ap (pair_of c) (is.first c no_less (omega (arith, below, is.starts)))))
    ∙ ap (λ i. filter_map f (range_with_len 0 i)) (omega (arith, is.starts))

-- the pairs of the controls below the last are those of all
pub pairs_below : (f : ℕ → Option Pair) (k end : ℕ) (all : List Pair) → all ≡ filter_map f (range_with_len 0 k) → k ≡ end → all ≡ filter_map f (range_with_len 0 end)
pairs_below f k end all same is = same ∙ ap (λ n. filter_map f (range_with_len 0 n)) is

-- a pair of another control gives this one none
still_none : (pairs : List Pair) (p : Pair) (c : ℕ) → p.control ≢ c → last_value pairs c ≡ None → last_value (pairs ++ p ∷ []) c ≡ None
still_none pairs p c other none = last_append pairs (p ∷ []) c ∙ by (eqb_tells p.control c)
  where
    by : ((p.control == c) ≡ true × (p.control ≡ c)) ⊎ ((p.control == c) ≡ false × (p.control ≢ c)) → option_or (option_or None (if p.control == c then Some p.value else None)) (last_value pairs c) ≡ None
    by (inl same) = absurd (other same.1)
    by (inr others) = rw (others.0, none) refl

-- a pair gives its control a value
gives_its_control : (pairs : List Pair) (p : Pair) (c : ℕ) → p.control ≡ c → is_some (last_value (pairs ++ p ∷ []) c) ≡ true
gives_its_control pairs p c same = ap is_some (last_append pairs (p ∷ []) c) ∙ by (eqb_tells p.control c)
  where
    by : ((p.control == c) ≡ true × (p.control ≡ c)) ⊎ ((p.control == c) ≡ false × (p.control ≢ c)) → is_some (option_or (option_or None (if p.control == c then Some p.value else None)) (last_value pairs c)) ≡ true
    by (inl here) = rw here.0 refl
    by (inr other) = absurd (other.1 same)

-- what either of two lists gives, both give
either_gives : (pairs more : List Pair) (c : ℕ) → is_some (last_value more c) ≡ true ⊎ is_some (last_value pairs c) ≡ true → is_some (last_value (pairs ++ more) c) ≡ true
either_gives pairs more c given = ap is_some (last_append pairs more c) ∙ by (last_value more c) (last_value pairs c) given
  where
    by : (a b : Option CtrlValue) → is_some a ≡ true ⊎ is_some b ≡ true → is_some (option_or a b) ≡ true
    by (Some x) b given = refl
    by None b (inl there) = absurd (true≢false (sym there))
    by None b (inr there) = there

-- one more pair names the next control
pub next_here : (pairs : List Pair) (p : Pair) (from end next : ℕ) → IsNextNamed pairs from end next → from ≤ p.control → p.control < next → IsNextNamed (pairs ++ p ∷ []) from end p.control
next_here pairs p from end next is no_less below = record {
  starts = no_less;
  ends = omega (arith, below, is.ends);
  named = λ before. gives_its_control pairs p p.control refl;
  first = λ c lo hi. still_none pairs p c (λ e. absurd (omega (arith, hi, e))) (is.first c lo (omega (arith, hi, below)));
}

-- one more pair doesn't
pub next_stays : (pairs : List Pair) (p : Pair) (from end next : ℕ) → IsNextNamed pairs from end next → (from ≤ p.control → p.control < next → ⊥) → IsNextNamed (pairs ++ p ∷ []) from end next
next_stays pairs p from end next is out = record {
  starts = is.starts;
  ends = is.ends;
  named = λ before. either_gives pairs (p ∷ []) next (inr (is.named before));
  first = λ c lo hi. still_none pairs p c (λ e. out (omega (arith, lo, e)) (omega (arith, hi, e))) (is.first c lo hi);
}

-- the next control may be given a value by either of two lists
pub next_of_both : (pairs more : List Pair) (from end first next : ℕ) → IsNextNamed more from end first → IsNextNamed pairs from first next → IsNextNamed (pairs ++ more) from end next
next_of_both pairs more from end first next behind before = record {
  starts = before.starts;
  ends = omega (arith, before.ends, behind.ends);
  named = λ below. either_gives pairs more next (by below (leb_tells first next));
  first = λ c no_less below. last_append pairs more c ∙ ap (λ (o : Option CtrlValue). option_or o (last_value pairs c)) (behind.first c no_less (omega (arith, below, before.ends))) ∙ before.first c no_less below;
}
  where
    by : next < end → ((leb first next ≡ true) × (first ≤ next)) ⊎ ((leb first next ≡ false) × (next < first)) → is_some (last_value more next) ≡ true ⊎ is_some (last_value pairs next) ≡ true
    by below (inl last) = let same : first ≡ next = omega (arith, last.1, before.ends) in inl (subst (λ (c : ℕ). is_some (last_value more c) ≡ true) same (behind.named (omega (arith, below, same))))
    by below (inr sooner) = inr (before.named sooner.1)

-- one more pair gives its control a value
pub given_here : (applied : List (Option CtrlValue)) (pairs : List Pair) (p : Pair) (n : ℕ) → applied ≡ map (last_value pairs) (range_with_len 0 n) → p.control < n
    → slice_set applied p.control (Some p.value) ≡ map (last_value (pairs ++ p ∷ [])) (range_with_len 0 n)
given_here applied pairs p n is within =
    fill_by_all (last_value (pairs ++ p ∷ [])) (slice_set applied p.control (Some p.value)) n None (length-set applied p.control (Some p.value) ∙ long) (λ k below. by k below (eqb_tells p.control k) ∙ sym (last_append pairs (p ∷ []) k))
  where
    long : length applied ≡ n
    long = ap length is ∙ length-map-range_with_len (last_value pairs) 0 n

    by : (k : ℕ) → k < n → ((p.control == k) ≡ true × (p.control ≡ k)) ⊎ ((p.control == k) ≡ false × (p.control ≢ k))
        → get_or (slice_set applied p.control (Some p.value)) k None ≡ option_or (option_or None (if p.control == k then Some p.value else None)) (last_value pairs k)
    by k below (inl same) = rw same.0 (subst (λ (i : ℕ). get_or (slice_set applied p.control (Some p.value)) i None ≡ Some p.value) same.1 (get_or-set_same applied p.control (Some p.value) None (omega (arith, within, long))))
    by k below (inr other) = rw other.0 (get_or-set_other applied p.control k (Some p.value) None (λ e. other.1 (sym e)) ∙ ap (λ (os : List (Option CtrlValue)). get_or os k None) is ∙ get_or-map-range_with_len (last_value pairs) 0 n k k None below (omega arith))

-- one more pair of a control that isn't among these gives none a value
pub given_elsewhere : (applied : List (Option CtrlValue)) (pairs : List Pair) (p : Pair) (n : ℕ) → applied ≡ map (last_value pairs) (range_with_len 0 n) → n ≤ p.control → applied ≡ map (last_value (pairs ++ p ∷ [])) (range_with_len 0 n)
given_elsewhere applied pairs p n is without =
    fill_by_all (last_value (pairs ++ p ∷ [])) applied n None (ap length is ∙ length-map-range_with_len (last_value pairs) 0 n) (λ k below. by k below (eqb_tells p.control k) ∙ sym (last_append pairs (p ∷ []) k))
  where
    by : (k : ℕ) → k < n → ((p.control == k) ≡ true × (p.control ≡ k)) ⊎ ((p.control == k) ≡ false × (p.control ≢ k))
        → get_or applied k None ≡ option_or (option_or None (if p.control == k then Some p.value else None)) (last_value pairs k)
    by k below (inl same) = absurd (omega (arith, without, below, same.1))
    by k below (inr other) = rw other.0 (ap (λ (os : List (Option CtrlValue)). get_or os k None) is ∙ get_or-map-range_with_len (last_value pairs) 0 n k k None below (omega arith))

-- a frame has a value for each control
pub snapshot_long : (applied : List (Option CtrlValue)) (values : List CtrlValue) → length (snapshot_of applied values) ≡ length values
unfolding snapshot_of
snapshot_long applied values = length-map-range_with_len (λ c. unwrap_or (slice_index_or applied c None) (slice_index_or values c zero_value)) 0 (length values)

-- the pairs of controls from one on say nothing of those before it
pairs_before : (f : ℕ → Option CtrlValue) (c a n : ℕ) → c < a → last_value (filter_map (λ i. pair_of i (f i)) (range_with_len a n)) c ≡ None
pairs_before f c a zero below = refl
pairs_before f c a (suc n) below = by (f a) (eqb_tells a c) (pairs_before f c (a + 1) n (omega (arith, below)))
  where
    by : (v : Option CtrlValue) → ((a == c) ≡ true × (a ≡ c)) ⊎ ((a == c) ≡ false × (a ≢ c)) → last_value (filter_map (λ i. pair_of i (f i)) (range_with_len (a + 1) n)) c ≡ None
        → last_value (cons_option (pair_of a v) (filter_map (λ i. pair_of i (f i)) (range_with_len (a + 1) n))) c ≡ None
    by None tells rest = rest
    by (Some v) (inl same) rest = absurd (omega (arith, below, same.1))
    by (Some v) (inr other) rest = rw (rest, other.0) refl

-- the pair of a control among those of a range
pairs_within : (f : ℕ → Option CtrlValue) (c a n : ℕ) → a ≤ c → c < a + n → last_value (filter_map (λ i. pair_of i (f i)) (range_with_len a n)) c ≡ f c
pairs_within f c a zero from below = absurd (omega (arith, from, below))
pairs_within f c a (suc n) from below = by (f a) refl (eqb_tells a c) (λ further. pairs_within f c (a + 1) n further (omega (arith, below)))
  where
    rest : List Pair
    rest = filter_map (λ i. pair_of i (f i)) (range_with_len (a + 1) n)

    by : (v : Option CtrlValue) → f a ≡ v → ((a == c) ≡ true × (a ≡ c)) ⊎ ((a == c) ≡ false × (a ≢ c)) → (a + 1 ≤ c → last_value rest c ≡ f c) → last_value (cons_option (pair_of a v) rest) c ≡ f c
    by None is (inl same) further = pairs_before f c (a + 1) n (omega (arith, same.1)) ∙ sym is ∙ ap f same.1
    by None is (inr other) further = further (omega (arith, from, other.1))
    by (Some v) is (inl same) further = rw (pairs_before f c (a + 1) n (omega (arith, same.1)), same.0) (sym is ∙ ap f same.1)
    by (Some v) is (inr other) further = rw other.0 (sym (or_none (last_value rest c)) ∙ further (omega (arith, from, other.1)))

-- of each control the last pair is kept
pub last_latest : (controls : ℕ) (pairs : List Pair) (c : ℕ) → c < controls → last_value (latest controls pairs) c ≡ last_value pairs c
unfolding latest
last_latest controls pairs c below = pairs_within (last_value pairs) c 0 controls (omega arith) (omega (arith, below))

-- what says the same of each control keeps the same pairs
same_pairs : (f g : ℕ → Option CtrlValue) (a n m : ℕ) → a + n ≤ m → ((c : ℕ) → c < m → f c ≡ g c) → filter_map (λ i. pair_of i (f i)) (range_with_len a n) ≡ filter_map (λ i. pair_of i (g i)) (range_with_len a n)
same_pairs f g a zero m within same = refl
same_pairs f g a (suc n) m within same =
    ap (λ (v : Option CtrlValue). cons_option (pair_of a v) (filter_map (λ i. pair_of i (f i)) (range_with_len (a + 1) n))) (same a (omega (arith, within)))
    ∙ ap (cons_option (pair_of a (g a))) (same_pairs f g (a + 1) n m (omega (arith, within)) same)

-- pairs stored behind what was kept, and stored behind all that was stored
pub latest_again : (controls : ℕ) (pairs more : List Pair) → latest controls (latest controls pairs ++ more) ≡ latest controls (pairs ++ more)
unfolding latest
latest_again controls pairs more = same_pairs (last_value (latest controls pairs ++ more)) (last_value (pairs ++ more)) 0 controls controls (omega arith)
    (λ c below. last_append (latest controls pairs) more c ∙ ap (option_or (last_value more c)) (last_latest controls pairs c below) ∙ sym (last_append pairs more c))

-- the pairs of the controls of a range name controls below its end
known_within : (f : ℕ → Option CtrlValue) (a n m : ℕ) → a + n ≤ m → All (λ (p : Pair). p.control < m) (filter_map (λ i. pair_of i (f i)) (range_with_len a n))
known_within f a zero m within = All-nil (λ (p : Pair). p.control < m)
known_within f a (suc n) m within = by (f a) (known_within f (a + 1) n m (omega (arith, within)))
  where
    rest : List Pair
    rest = filter_map (λ i. pair_of i (f i)) (range_with_len (a + 1) n)

    by : (v : Option CtrlValue) → All (λ (p : Pair). p.control < m) rest → All (λ (p : Pair). p.control < m) (cons_option (pair_of a v) rest)
    by None known = known
    by (Some v) known = All-cons (λ (p : Pair). p.control < m) (record { control = a; value = v }) rest (omega (arith, within)) known

-- what is kept names controls that are there
pub known_latest : (controls : ℕ) (pairs : List Pair) → All (λ p. p.control < controls) (latest controls pairs)
unfolding latest
known_latest controls pairs = known_within (last_value pairs) 0 controls controls (omega arith)
