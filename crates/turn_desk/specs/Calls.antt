-- What a call at a seat promises.
use Rattle.std.specs.Prelude.{◌≡◌, ℕ, List, ◌++◌, Option}
use Rattle.history.specs.declared.entry.Entry.{Entry}
use Rattle.history.specs.Past.{own, entered}
use Rattle.history.specs.Prefix.{IsPrefix}

-- one call at a seat: what it had seen before, and what it has seen after
pub record IsCall {P S Ask Answer : Type 0} (is_legal : P → List (Entry S) → Type 0) (answers : P → List (Entry S) → Ask → Answer → Type 0) (taken : P → List (Entry S) → Ask → Answer → Option S)
    (plan : P) (number : ℕ) (before : List (Entry S)) (ask : Ask) (answer : Answer) (after : List (Entry S)) : Type 0 where
  -- the history at which the answer stands: all that was seen before, and what came in between
  pub past : List (Entry S)
  pub later : IsPrefix before past
  pub lawful : is_legal plan past
  pub answered : answers plan past ask answer
  -- and then the step that was taken, if one was, under the seat's number
  pub seen : after ≡ past ++ entered number (taken plan past ask answer)
  pub legal : is_legal plan after
  -- the seat's own entries are those that it had, and this one
  pub alone : own number after ≡ own number before ++ entered number (taken plan past ask answer)
