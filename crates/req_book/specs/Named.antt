-- Which of the controls that pairs give a value comes next, in order of control numbers.
use Rattle.std.specs.Prelude.{◌≡◌, ℕ, true, ◌<◌, ◌≤◌, List, None, is_some}
use Rattle.ctrl_types.specs.declared.ids.Pair.{Pair}
use Rattle.ctrl_types.specs.Pairs.{last_value}

-- the next control from one on that pairs give a value, or the end, where they give none before it one
pub record IsNextNamed (pairs : List Pair) (from end next : ℕ) : Type 0 where
  pub starts : from ≤ next
  pub ends : next ≤ end
  pub named : next < end → is_some (last_value pairs next) ≡ true
  pub first : (c : ℕ) → from ≤ c → c < next → last_value pairs c ≡ None
