-- How many frames are queued.
use Rattle.std.proofs.Common.{ℕ, ◌+◌, ◌≤◌, Bool, true, false, not, cond, nat_eq, List, [], ◌∷◌, length, filter, Option, None, Some, arith}
use Rattle.std.proofs.lemmas.List.{length-append}
use Rattle.device_history.specs.Frames.{all_but, ever_queued, queue}
use Rattle.device_history.specs.Steps.{Past}
use Rattle.device_history.proofs.QueueingLemmas.{queued_by, with_last, ever_queued_start, ever_queued_more}

-- a list without some of its elements is no longer
filter_short : {X : Type 0} (p : X → Bool) (xs : List X) → length (filter p xs) ≤ length xs
filter_short p [] = omega arith
filter_short p (x ∷ xs) = by (p x) (filter_short p xs)
  where
    by : (b : Bool) → length (filter p xs) ≤ length xs → length (cond b (x ∷ filter p xs) (filter p xs)) ≤ length (x ∷ xs)
    by true few = omega arith
    by false few = omega arith

last_short : (queued : Option ℕ) (ids : List ℕ) → length (with_last queued ids) ≤ length ids + 1
last_short None ids = omega arith
last_short (Some r) ids = let few = filter_short (λ j. not (nat_eq r j)) ids in let one = length-append (all_but r ids) (r ∷ []) in omega arith

ever_short : (older : Past) → length (ever_queued older) ≤ length older
ever_short [] = rw ever_queued_start (omega arith)
ever_short (e ∷ older) = rw (ever_queued_more e older) let one = last_short (queued_by e.step) (ever_queued older) in let few = ever_short older in omega arith

-- no more frames are queued than steps were taken
pub queue_short : (older : Past) → length (queue older) ≤ length older
queue_short older = let few = ever_short older in let fewer : length (queue older) ≤ length (ever_queued older) = filter_short _ (ever_queued older) in omega arith
