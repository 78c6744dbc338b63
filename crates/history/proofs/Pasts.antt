-- The past of a history that grows.
use Rattle.std.proofs.Common.{◌≡◌, List, [], ◌∷◌, ◌++◌, length}
use Rattle.std.proofs.lemmas.List.{reverse-append, length-reverse}
use Rattle.history.specs.declared.entry.Entry.{Entry}
use Rattle.history.specs.Past.{past}

-- one more entry is the newest
pub past_add : {S : Type 0} (steps : List (Entry S)) (e : Entry S) → past (steps ++ e ∷ []) ≡ e ∷ past steps
past_add steps e = reverse-append steps (e ∷ [])

-- no entry is lost
pub length_past : {S : Type 0} (steps : List (Entry S)) → length (past steps) ≡ length steps
length_past steps = length-reverse steps
