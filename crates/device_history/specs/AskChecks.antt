-- What refuses an ask (of this project; the index that a list has then, too: Linux userspace API, "struct v4l2_ext_controls", `error_idx`).
use Rattle.std.specs.Prelude.{ℕ, [], length, Option, None, Some, Result, Ok, Err, unwrap_or}
use Rattle.std.specs.Option.{option_map}
use Rattle.std.specs.Result.{result_err}
use Rattle.ctrl_types.specs.Checks.{errno_of}
use Rattle.ctrl_types.specs.Refusals.{whole}
use Rattle.ctrl_types.specs.declared.check.Check.{Check}
use Rattle.ctrl_types.specs.declared.errno.Fault.{Fault}
use Rattle.ctrl_types.specs.declared.refusal.Refusal.{Refusal}
use Rattle.frame_queue.specs.Frames.{begin_check, complete_check}
use Rattle.ctrl_calls.specs.Meanings.{Verdicts}
use Rattle.ctrl_handlers.specs.Plan.{PlanData}
use Rattle.ctrl_lists.specs.Checks.{first_refusal}
use Rattle.device_history.specs.declared.ask.Ask.{Ask}
use Rattle.device_history.specs.declared.ask.Ask.TheVariants as asks
use Rattle.device_history.specs.declared.ask.Reply.{Reply}
use Rattle.device_history.specs.declared.ask.Step.TheVariants as steps
use Rattle.device_history.specs.Steps.{Past}
use Rattle.device_history.specs.Lists.{get_checks, set_checks, try_checks}
use Rattle.device_history.specs.Refusals.{Answer, step_check}
use Rattle.device_history.specs.Handles.{through}
use Rattle.device_history.specs.Snapshots.{frames}
use Rattle.device_history.specs.StepChecks.{step_refusal}
use Rattle.device_history.specs.RequestAnswers.{state_found}
use Rattle.device_history.specs.EventAnswers.{subscribe_check, first_event}
use Rattle.device_history.specs.Forecasts.{forecast_at}
use Rattle.device_history.specs.Queries.{control_shown, id_behind, item_found, word_of}

-- The first check that refuses an ask which is no list, where memory suffices, as the law `refusals_by_checks` says: its own, and then, where it adds a step, that no
-- further step is kept. Of a list it tells none, refused or not: its checks, with the entry where each refuses, stand in specs/Lists. The words that were told don't
-- matter.
abbrev pub check_of : Verdicts → PlanData → Past → Ask → Option Check
check_of verdicts plan past (asks.OpenFh handler) = step_check past (step_refusal verdicts plan past (steps.OpenFh handler))
check_of verdicts plan past (asks.CloseFh fh) = step_check past (step_refusal verdicts plan past (steps.CloseFh fh))
check_of verdicts plan past (asks.Grab c on) = step_check past (step_refusal verdicts plan past (steps.Grab c on))
check_of verdicts plan past (asks.ModifyRange c low high apart default_value) = step_check past (step_refusal verdicts plan past (steps.ModifyRange c low high apart default_value))
check_of verdicts plan past asks.Alloc = step_check past (step_refusal verdicts plan past steps.Alloc)
check_of verdicts plan past (asks.AddBuffer r number) = step_check past (step_refusal verdicts plan past (steps.Buffer r number))
check_of verdicts plan past (asks.Queue r) = step_check past (step_refusal verdicts plan past (steps.Queue r))
check_of verdicts plan past asks.Begin = step_check past (begin_check (frames verdicts plan past))
check_of verdicts plan past asks.Complete = step_check past (complete_check (frames verdicts plan past))
check_of verdicts plan past (asks.Cancel r) = step_check past (step_refusal verdicts plan past (steps.Cancel r))
check_of verdicts plan past asks.StreamOff = step_check past (step_refusal verdicts plan past steps.StreamOff)
check_of verdicts plan past (asks.Reinit r) = step_check past (step_refusal verdicts plan past (steps.Reinit r))
check_of verdicts plan past (asks.Free r) = step_check past (step_refusal verdicts plan past (steps.Free r))
check_of verdicts plan past (asks.StateOf r) = result_err (state_found past r)
check_of verdicts plan past (asks.Forecast place) = result_err (forecast_at verdicts plan past place)
check_of verdicts plan past (asks.Subscribe fh id flags) = step_check past (subscribe_check plan past fh id)
check_of verdicts plan past (asks.Unsubscribe fh id) = step_check past (through past fh None)
check_of verdicts plan past (asks.Take fh) = step_check past (result_err (first_event verdicts plan past fh))
check_of verdicts plan past (asks.Query fh id) = result_err (control_shown plan past fh id)
check_of verdicts plan past (asks.NextId fh id) = result_err (id_behind plan past fh id)
check_of verdicts plan past (asks.MenuItem fh id index) = result_err (item_found plan past fh id index)
check_of verdicts plan past (asks.Told cluster) = result_err (word_of plan [] cluster)
check_of verdicts plan past _ = None

-- What refuses an ask where memory suffices, as the law `refusals_by_checks` says: the first check that doesn't hold, and of a list the entry where it doesn't.
abbrev pub refusal_of : Verdicts → PlanData → Past → Ask → Option Refusal
refusal_of verdicts plan past (asks.GetCtrls fh which request list) = first_refusal (get_checks verdicts plan past fh which request list)
refusal_of verdicts plan past (asks.SetCtrls fh which request list) = first_refusal (set_checks verdicts plan past fh which request list)
refusal_of verdicts plan past (asks.TryCtrls fh which request list) = first_refusal (try_checks verdicts plan past fh which request list)
refusal_of verdicts plan past ask = option_map whole (check_of verdicts plan past ask)

-- The index of a refusal: of a try the entry, where it is refused at one; else the number of entries; none of an ask that is no list.
abbrev pub index_of : Ask → Option ℕ → Option ℕ
index_of (asks.GetCtrls fh which request list) entry = Some (length list)
index_of (asks.SetCtrls fh which request list) entry = Some (length list)
index_of (asks.TryCtrls fh which request list) entry = Some (unwrap_or entry (length list))
index_of ask entry = None

-- what an ask is answered that this refuses
abbrev pub fault_for : Ask → Refusal → Fault
fault_for ask refusal = record { errno = errno_of refusal.check; index = index_of ask refusal.entry }

-- an answer as it is published
abbrev pub published : Ask → Result Reply Refusal → Answer
published ask (Ok reply) = Ok reply
published ask (Err refusal) = Err (fault_for ask refusal)
