-- What a cluster makes of a row: its validator judges it (Linux driver API, "V4L2 Controls", "Control Clusters": `try_ctrl`;
-- which refusals pass, and that an accepted row is settled, is of this project).
use Rattle.std.specs.Prelude.{ℕ, zero, suc, Bool, true, false, ◌&&◌, if◌then◌else◌, List, [], ◌∷◌, Option, None, Some, is_some, Result, Ok, Err}
use Rattle.std.specs.Result.{is_ok}
use Rattle.ctrl_types.specs.Values.{is_same}
use Rattle.ctrl_types.specs.declared.value.CtrlValue.{CtrlValue}
use Rattle.ctrl_types.specs.declared.errno.Errno.{Errno}
use Rattle.ctrl_types.specs.declared.errno.Errno.TheVariants.{EACCES, EBUSY, EINVAL, ERANGE}
use Rattle.ctrl_types.specs.declared.ids.Pair.{Pair}
use Rattle.ctrl_calls.specs.Counts.{one_more}
use Rattle.ctrl_calls.specs.Meanings.{Verdicts}
use Rattle.ctrl_calls.specs.declared.relation.Relation.{Relation}
use Rattle.ctrl_calls.specs.declared.verdict.Verdict.{Verdict}
use Rattle.ctrl_calls.specs.declared.verdict.Verdict.TheVariants.{Accept, Refuse}
use Rattle.ctrl_settle.specs.Control.{Control}
use Rattle.ctrl_settle.specs.Settle.{settle}
use Rattle.ctrl_handlers.specs.Plan.{PlanData, control_in, members, calls_of}
use Rattle.ctrl_clusters.specs.Rows.{Values, overwritten, settle_row}

-- a validator refuses with EACCES, EBUSY, EINVAL or ERANGE; what else it says counts as EINVAL
abbrev pub refusal_of : Errno → Errno
refusal_of EACCES = EACCES
refusal_of EBUSY = EBUSY
refusal_of ERANGE = ERANGE
refusal_of _ = EINVAL

-- whether this is the value itself
abbrev pub is_value : Result CtrlValue Errno → CtrlValue → Bool
is_value (Ok settled) v = is_same settled v
is_value (Err errno) v = false

-- whether the members take the values of a row as they are; a row of another length they don't take
abbrev pub takes_row : List Control → List ℕ → List CtrlValue → Bool
takes_row controls [] [] = true
takes_row controls [] (v ∷ vs) = false
takes_row controls (c ∷ cs) [] = false
takes_row controls (c ∷ cs) (v ∷ vs) = is_value (settle (control_in controls c) v) v && takes_row controls cs vs

-- What a verdict makes of a row: a refusal stands; an accepted row has to be one that the members take as it is.
abbrev pub judged : List Control → List ℕ → Verdict → Result (List CtrlValue) Errno
judged controls members (Refuse errno) = Err (refusal_of errno)
judged controls members (Accept row) = if takes_row controls members row then Ok row else Err EINVAL

-- A cluster with these members judges a row: by its validator, where it has one; else each row is accepted as it is.
abbrev pub judge_by : Verdicts → List Control → List ℕ → Option Relation → List CtrlValue → Result (List CtrlValue) Errno
judge_by verdicts controls members None row = Ok row
judge_by verdicts controls members (Some relation) row = judged controls members (verdicts relation row)

-- what a cluster makes of a row, where the controls are these
unfoldable pub judge : Verdicts → PlanData → List Control → ℕ → List CtrlValue → Result (List CtrlValue) Errno
judge verdicts plan controls k row = judge_by verdicts controls (members plan k) (calls_of plan k).validator row

-- how many validators were asked once a cluster judged a row: one more where it has one
abbrev pub after_judging : Option Relation → ℕ → ℕ
after_judging None count = count
after_judging (Some relation) count = one_more count

-- what a cluster makes of a row where its members settle; else the errno of settling stands
abbrev pub judge_settled : Verdicts → PlanData → List Control → ℕ → Result (List CtrlValue) Errno → Result (List CtrlValue) Errno
judge_settled verdicts plan controls k (Err errno) = Err errno
judge_settled verdicts plan controls k (Ok row) = judge verdicts plan controls k row

-- The validated row of a cluster where these pairs are laid over these values: its row is overwritten by the pairs, settles in member order,
-- and is judged.
unfoldable pub validated_row : Verdicts → PlanData → List Control → Values → List Pair → ℕ → Result (List CtrlValue) Errno
validated_row verdicts plan controls values pairs k =
    judge_settled verdicts plan controls k (settle_row controls (members plan k) (overwritten values pairs (members plan k)))

-- Whether a validator is asked for the validated row of a cluster: its members settle, and it has one.
unfoldable pub asks_validator : PlanData → List Control → Values → List Pair → ℕ → Bool
asks_validator plan controls values pairs k =
    is_some (calls_of plan k).validator && is_ok (settle_row controls (members plan k) (overwritten values pairs (members plan k)))

-- a count with one call more, where there is a call
abbrev pub with_call : Bool → ℕ → ℕ
with_call true count = one_more count
with_call false count = count

-- a count with so many calls more, one after the other: a full count stays as it is
abbrev pub with_calls : ℕ → ℕ → ℕ
with_calls zero count = count
with_calls (suc calls) count = one_more (with_calls calls count)
