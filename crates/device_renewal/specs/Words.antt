-- Words that notifiers say, of which there is one for each row (of this project).
use Rattle.std.specs.Prelude.{◌≡◌, ℕ, List}
use Rattle.ctrl_types.specs.declared.value.CtrlValue.{CtrlValue}
use Rattle.ctrl_calls.specs.Meanings.{Words}
use Rattle.ctrl_calls.specs.declared.relation.Relation.{Relation}

-- a notifier says one word of a row
abbrev pub SayOne : Words → Type 0
SayOne says = (relation : Relation) (row : List CtrlValue) (word other : ℕ) → says relation row word → says relation row other → word ≡ other
