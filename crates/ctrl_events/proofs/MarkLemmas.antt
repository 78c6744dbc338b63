-- Marks: what is set once one is set or cleared, or more room was made.
use Rattle.std.proofs.Common.{arith, ◌≡◌, ◌∙◌, ◌-◌, ◌*◌, ◌^◌, ◌%◌, ◌<◌, ◌≤◌, ◌⊎◌, inl, inr, ℕ, Option, Some, List, set, length, get_or, slice_get, true, true≢false, bit_and, bit_or, w64, sym, ap}
use Rattle.std.specs.Int.{bit_at}
use Rattle.std.proofs.lemmas.Bool.{cases_eq, cases_lt}
use Rattle.std.proofs.lemmas.List.{get_or-set_same, get_or-set_other, get_or_past}
use Rattle.std.proofs.lemmas.Nat.{and_le_l}
use Rattle.std.proofs.lemmas.Nat.Bits.{bit_at_or, bit_at-lt, bit_at-zero, bit_at_set_same, bit_at_set_other, bit_at_clear_same}
use Rattle.std.proofs.lemmas.Option.{slice_get_within}
use Rattle.ctrl_events.specs.Order.{has, logged}
use Rattle.ctrl_events.specs.Heard.{IsHeard}
use Rattle.ctrl_events.proofs.OrderLemmas.{has_none}

-- what is in one of two words is in both together
pub or_left : (a b k : ℕ) → bit_at a k ≡ 1 → bit_at (bit_or a b) k ≡ 1
or_left a b k is =
    let both = bit_at_or a b k in
    let below = bit_at-lt b k in
    omega (arith, is, both, below)

-- fewer are left once one is cleared
pub fewer_left : (a k : ℕ) → k < 64 → bit_at a k ≡ 1 → bit_and a (18446744073709551615 - 1 * 2 ^ k % 18446744073709551616) < a
fewer_left a k within is = by (cases_lt (bit_and a (18446744073709551615 - 1 * 2 ^ k % 18446744073709551616)) a)
  where
    left : ℕ
    left = bit_and a (18446744073709551615 - 1 * 2 ^ k % 18446744073709551616)

    by : (left < a) ⊎ (a ≤ left) → left < a
    by (inl less) = less
    by (inr more) =
        let no_more : left ≤ a = and_le_l a (18446744073709551615 - 1 * 2 ^ k % 18446744073709551616) in
        let same : left ≡ a = omega (arith, more, no_more) in
        let cleared : bit_at left k ≡ 0 = bit_at_clear_same w64 a k within in
        absurd (omega (arith, sym cleared ∙ ap (λ (n : ℕ). bit_at n k) same ∙ is))

-- a mark is set, and those that were stay
pub marked : (heard : List ℕ) (place c : ℕ) → c < length heard → IsHeard (set heard c (bit_or (get_or heard c 0) (1 * 2 ^ (place % 64) % 2 ^ 64))) place c
marked heard place c within =
    ap (λ (n : ℕ). bit_at n (place % 64)) (get_or-set_same heard c _ 0 within) ∙ bit_at_set_same w64 (get_or heard c 0) (place % 64) (omega arith)

pub marks_kept : (heard : List ℕ) (place c j d : ℕ) → c < length heard → IsHeard heard j d → IsHeard (set heard c (bit_or (get_or heard c 0) (1 * 2 ^ (place % 64) % 2 ^ 64))) j d
marks_kept heard place c j d within is = by (cases_eq d c) (cases_eq (j % 64) (place % 64))
  where
    word : ℕ
    word = bit_or (get_or heard c 0) (1 * 2 ^ (place % 64) % 2 ^ 64)

    here : d ≡ c → get_or (set heard c (bit_or (get_or heard c 0) (1 * 2 ^ (place % 64) % 2 ^ 64))) d 0 ≡ bit_or (get_or heard c 0) (1 * 2 ^ (place % 64) % 2 ^ 64)
    here same = ap (λ k. get_or (set heard c (bit_or (get_or heard c 0) (1 * 2 ^ (place % 64) % 2 ^ 64))) k 0) same ∙ get_or-set_same heard c _ 0 within

    by : (d ≡ c) ⊎ (d ≡ c → ⊥) → (j % 64 ≡ place % 64) ⊎ (j % 64 ≡ place % 64 → ⊥) → bit_at (get_or (set heard c (bit_or (get_or heard c 0) (1 * 2 ^ (place % 64) % 2 ^ 64))) d 0) (j % 64) ≡ 1
    by (inl same) (inl bit) = ap (λ (n : ℕ). bit_at n (j % 64)) (here same) ∙ ap (bit_at (bit_or (get_or heard c 0) (1 * 2 ^ (place % 64) % 2 ^ 64))) bit ∙ bit_at_set_same w64 (get_or heard c 0) (place % 64) (omega arith)
    by (inl same) (inr bit) = ap (λ (n : ℕ). bit_at n (j % 64)) (here same) ∙ bit_at_set_other w64 (get_or heard c 0) (place % 64) (omega arith) (j % 64) bit ∙ ap (λ k. bit_at (get_or heard k 0) (j % 64)) (sym same) ∙ is
    by (inr other) bits = ap (λ (n : ℕ). bit_at n (j % 64)) (get_or-set_other heard c d _ 0 other) ∙ is

-- a control without marks
pub quiet : (heard : List ℕ) (j c : ℕ) → get_or heard c 0 ≡ 0 → IsHeard heard j c → ⊥
quiet heard j c none is = absurd (omega (arith, sym is ∙ ap (λ (n : ℕ). bit_at n (j % 64)) none ∙ bit_at-zero (j % 64)))

-- those that are set stay where there is room for more
pub marks_grown : (old new : List ℕ) (j c : ℕ) → ((d : ℕ) → d < length old → get_or new d 0 ≡ get_or old d 0) → IsHeard old j c → IsHeard new j c
marks_grown old new j c kept is = by (cases_lt c (length old))
  where
    by : (c < length old) ⊎ (length old ≤ c) → IsHeard new j c
    by (inl within) = ap (λ (n : ℕ). bit_at n (j % 64)) (kept c within) ∙ is
    by (inr past) = absurd (quiet old j c (get_or_past old c 0 past) is)

-- where one is set, there are marks of the control
pub within_marks : (heard : List ℕ) (p c : ℕ) → IsHeard heard p c → c < length heard
within_marks heard p c is = by (cases_lt c (length heard))
  where
    by : (c < length heard) ⊎ (length heard ≤ c) → c < length heard
    by (inl within) = within
    by (inr past) = absurd (quiet heard p c (get_or_past heard c 0 past) is)

-- one number, where both are there
pub same_number : (a b : ℕ) → Some a ≡ Some b → a ≡ b
same_number a b h = cc

-- a place that is marked for each number of a log is marked for each that is among them
pub marked_all : (log : List (Option ℕ)) (heard : List ℕ) (place n c : ℕ) → length log ≤ n → ((i : ℕ) → i < n → slice_get log i ≡ Some (Some c) → IsHeard heard place c) → has (logged log) c ≡ true → IsHeard heard place c
marked_all log heard place n c all each there = by (cases_eq (bit_at (get_or heard c 0) (place % 64)) 1)
  where
    by : (bit_at (get_or heard c 0) (place % 64) ≡ 1) ⊎ (bit_at (get_or heard c 0) (place % 64) ≡ 1 → ⊥) → IsHeard heard place c
    by (inl is) = is
    by (inr unmarked) = absurd (true≢false (sym there ∙ has_none log c (λ i at. unmarked (each i (omega (arith, all, slice_get_within log i (Some c) at)) at))))
