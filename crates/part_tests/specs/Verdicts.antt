-- What the validators of these tests make of a row.
use Rattle.std.specs.Prelude.{int_lt, List, [], ◌∷◌, if◌then◌else◌}
use Rattle.ctrl_types.specs.declared.value.CtrlValue.{CtrlValue}
use Rattle.ctrl_types.specs.declared.value.CtrlValue.TheVariants.{Number}
use Rattle.ctrl_calls.specs.Meanings.{Verdicts}
use Rattle.ctrl_calls.specs.declared.verdict.Verdict.{Verdict}
use Rattle.ctrl_calls.specs.declared.verdict.Verdict.TheVariants.{Accept, Refuse}
use Rattle.ctrl_types.specs.declared.errno.Errno.TheVariants.{ERANGE}

-- of two numbers the second is no less than the first
abbrev pub ordered : List CtrlValue → Verdict
ordered (Number first ∷ Number second ∷ []) = if int_lt second first then Refuse ERANGE else Accept (Number first ∷ Number second ∷ [])
ordered row = Accept row

abbrev pub ordered_verdict : Verdicts
ordered_verdict relation row = ordered row
