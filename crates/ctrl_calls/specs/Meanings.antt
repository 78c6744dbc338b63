-- What a driver means by its relations (of this project; Linux driver API, "V4L2 Controls", has the callbacks:
-- "Control Clusters" for try_ctrl and s_ctrl, "Adding Notify Callbacks" for notifications).
use Rattle.std.specs.Prelude.{◌≡◌, ℕ, List}
use Rattle.ctrl_types.specs.declared.value.CtrlValue.{CtrlValue}
use Rattle.ctrl_calls.specs.declared.relation.Relation.{Relation}
use Rattle.ctrl_calls.specs.declared.verdict.Verdict.{Verdict}

-- what a relation makes of a row
abbrev pub Verdicts : Type 0
Verdicts = Relation → List CtrlValue → Verdict

-- which words a relation allows to be told of a row
abbrev pub Words : Type 1
Words = Relation → List CtrlValue → ℕ → Type 0

-- whatever is answered to a row is this verdict on it
abbrev pub JudgesBy : (List CtrlValue → Verdict → Type 0) → (List CtrlValue → Verdict) → Type 0
JudgesBy answers verdict = (row : List CtrlValue) (answer : Verdict) → answers row answer → answer ≡ verdict row

-- whatever is answered to a row is a word that may be told of it
abbrev pub TellsBy : (List CtrlValue → ℕ → Type 0) → (List CtrlValue → ℕ → Type 0) → Type 0
TellsBy answers told = (row : List CtrlValue) (word : ℕ) → answers row word → told row word
