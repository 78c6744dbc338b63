-- Digits one after another, and how large the number that they write is.
use Rattle.std.proofs.Common.{◌≡◌, ℕ, ◌+◌, ◌*◌, ◌^◌, ◌<◌, ◌≤◌, List, [], ◌∷◌, length, take, get_or, Bool, true, false, if◌then◌else◌, arith, refl, suc, Some, None}
use Rattle.std.proofs.Math.Nat.{mul-le-mul_right, pow-suc, pow-le-pow_right}
use Rattle.std.proofs.lemmas.Int.Digits.{digits_more, digits_value_more, digits_value-lt}
use Rattle.std.proofs.lemmas.Grind.{common_steps}
use Rattle.std.proofs.lemmas.List.{take_all}
use Rattle.std.proofs.lemmas.List.Folds.{list_all_more}
use Rattle.std.specs.Char.{is_digit, digit_value}
use Rattle.std.specs.List.{list_all}
use Rattle.std.specs.Str.Parse.{AllDigits, digits_value}
use Rattle.script_lines.specs.Lexemes.{numeral}

-- the test of each digit, as a fact
pub all_digits : (radix : ℕ) (ds : List ℕ) → list_all (λ c. is_digit c radix) ds ≡ true → AllDigits radix ds
all_digits radix [] h = tt
all_digits radix (c ∷ cs) h = grind (arith, common_steps, all_digits radix cs)

pub list_all-digits : (radix : ℕ) (ds : List ℕ) → AllDigits radix ds → list_all (λ c. is_digit c radix) ds ≡ true
list_all-digits radix [] h = refl
list_all-digits radix (c ∷ cs) h =
    let front : digit_value c < radix = h.0 in
    let rest : list_all (λ d. is_digit d radix) cs ≡ true = list_all-digits radix cs h.1 in
    grind (arith, common_steps)

-- one more digit keeps the number below one more power
pub push_below : (radix n d p : ℕ) → n < p → d < radix → n * radix + d < p * radix
push_below radix n d p h small = omega (arith, mul-le-mul_right radix h)

-- the number that some of at most `most` digits write with one more fits
pub fits_more : (radix most i d n : ℕ) (word : List ℕ) → 2 ≤ radix → radix ^ most ≤ 2 ^ 64 → i < length word → length word ≤ most
    → AllDigits radix (take i word) → n ≡ digits_value radix (take i word) → d < radix → n * radix + d < 2 ^ 64
fits_more radix most i d n word low fits within few digits is small =
    let len : length (take i word) ≡ i = grind (arith, common_steps) in
    let below : digits_value radix (take i word) < radix ^ length (take i word) = digits_value-lt radix (take i word) digits in
    let at_i : digits_value radix (take i word) < radix ^ i = rw len at below in
    let front : n < radix ^ i = rw is at_i in
    let pushed = push_below radix n d (radix ^ i) front small in
    let top : radix ^ suc i ≤ radix ^ most = pow-le-pow_right (omega arith) (omega arith) in
    let step : radix ^ suc i ≡ radix ^ i * radix = pow-suc radix i in
    omega arith

-- a value that is there under a test
kept : (b : Bool) (v n : ℕ) → (if b then Some v else None) ≡ Some n → (b ≡ true) × (v ≡ n)
kept true v n e = (refl, cc)
kept false v n e = cc

-- a number of at most `most` digits lies below that power of the radix
pub numeral_below : (radix most n : ℕ) (word : List ℕ) → 1 ≤ radix → numeral radix most word ≡ Some n → n < radix ^ most
numeral_below radix most n word low e =
    let parts = kept _ _ _ e in
    let test = parts.0 in
    let digits : AllDigits radix word = all_digits radix word (grind (arith, common_steps)) in
    let short : length word ≤ most = grind (arith, common_steps) in
    let below : digits_value radix word < radix ^ length word = digits_value-lt radix word digits in
    let top : radix ^ length word ≤ radix ^ most = pow-le-pow_right (omega arith) short in
    omega (arith, parts.1)

-- what digits write
numeral_some : (radix most : ℕ) (word : List ℕ) → 0 < length word → length word ≤ most → list_all (λ c. is_digit c radix) word ≡ true
    → numeral radix most word ≡ Some (digits_value radix word)
numeral_some radix most word some few digits = grind (arith, common_steps)

-- the whole of a word, by its front
whole : (word : List ℕ) (i : ℕ) → length word ≡ i + 1 → take (i + 1) word ≡ word
whole word i len = take_all (i + 1) word (omega arith)

-- what is behind digits is one more
pub numeral_push : (radix i n : ℕ) (word : List ℕ) → length word ≡ i + 1 → numeral radix i (take i word) ≡ Some n → digit_value (get_or word i 0) < radix
    → numeral radix (i + 1) word ≡ Some (n * radix + digit_value (get_or word i 0))
numeral_push radix i n word len e small =
    let parts = kept _ _ _ e in
    let front : list_all (λ c. is_digit c radix) (take i word) ≡ true = grind (arith, common_steps) in
    let more = digits_more radix word i (omega arith) (all_digits radix (take i word) front) small in
    let digits : AllDigits radix word = rw (whole word i len) at more in
    let value : digits_value radix (take (i + 1) word) ≡ digits_value radix (take i word) * radix + digit_value (get_or word i 0) = digits_value_more radix word i (omega arith) in
    let next : digits_value radix word ≡ n * radix + digit_value (get_or word i 0) = rw (whole word i len, parts.1) at value in
    rw (numeral_some radix (i + 1) word (omega arith) (omega arith) (list_all-digits radix word digits), next) refl

-- a word whose front isn't of digits
pub numeral_none : (radix i : ℕ) (word : List ℕ) → 0 < i → length word ≡ i + 1 → numeral radix i (take i word) ≡ None → numeral radix (i + 1) word ≡ None
numeral_none radix i word some len e =
    let more = list_all_more (λ c. is_digit c radix) word i 0 (omega arith) in
    let all = whole word i len in
    grind (arith, common_steps)
