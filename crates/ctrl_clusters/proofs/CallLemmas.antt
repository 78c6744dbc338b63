-- How many validators are asked, call after call.
use Rattle.std.proofs.Common.{◌≡◌, ◌∙◌, ◌≤◌, ◌+◌, ℕ, zero, suc, Bool, true, false, cond, Option, None, Some, is_some, ap, arith}
use Rattle.ctrl_calls.specs.Counts.{one_more}
use Rattle.ctrl_calls.specs.declared.relation.Relation.{Relation}
use Rattle.ctrl_clusters.specs.Judging.{after_judging, with_call, with_calls}

-- calls behind calls
pub calls_more : (n m count : ℕ) → with_calls m (with_calls n count) ≡ with_calls (n + m) count
calls_more n zero count = as_many (omega arith)
  where
    as_many : n ≡ n + 0 → with_calls n count ≡ with_calls (n + 0) count
    as_many is = ap (λ (k : ℕ). with_calls k count) is
calls_more n (suc m) count = ap one_more (calls_more n m count) ∙ as_many (omega arith)
  where
    as_many : suc (n + m) ≡ n + suc m → with_calls (suc (n + m)) count ≡ with_calls (n + suc m) count
    as_many is = ap (λ (k : ℕ). with_calls k count) is

-- one call more, where there is one
pub calls_next : (b : Bool) (n count : ℕ) → with_call b (with_calls n count) ≡ with_calls (n + cond b 1 0) count
calls_next true n count = calls_more n 1 count
calls_next false n count = calls_more n 0 count

-- which is one at most
pub one_call : (b : Bool) (count : ℕ) → with_call b count ≤ count + 1
one_call true count = omega arith
one_call false count = omega arith

-- a cluster asks its validator, where it has one
pub judging_next : (o : Option Relation) (n count : ℕ) → after_judging o (with_calls n count) ≡ with_calls (n + cond (is_some o) 1 0) count
judging_next None n count = calls_more n 0 count
judging_next (Some relation) n count = calls_more n 1 count

-- they are no more than are made
pub calls_most : (n m count : ℕ) → n ≤ m → with_calls n count ≤ count + m
calls_most zero m count le = at_first
  where
    at_first : count ≤ count + m
    at_first = omega arith
calls_most (suc n) m count le = one_call_more (with_calls n count) (calls_most n n count (omega arith))
  where
    one_call_more : (counted : ℕ) → counted ≤ count + n → one_more counted ≤ count + m
    one_call_more counted most = omega (arith, le, most)
