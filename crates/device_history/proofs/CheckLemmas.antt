-- An ask is refused by what is found for it: one that is no list by its check, a list by its first refusal.
use Rattle.std.proofs.Common.{◌≡◌, false, List, [], length, Option, None, Some, Result, Ok, Err, ap, refl}
use Rattle.std.specs.Option.{option_map}
use Rattle.std.specs.Result.{result_err}
use Rattle.ctrl_types.specs.Refusals.{fault_at_count, fault_at_entry, whole}
use Rattle.ctrl_types.specs.declared.check.Check.{Check}
use Rattle.ctrl_types.specs.declared.errno.Fault.{Fault}
use Rattle.ctrl_types.specs.declared.ids.ExtControl.{ExtControl}
use Rattle.ctrl_types.specs.declared.refusal.Refusal.{Refusal}
use Rattle.ctrl_calls.specs.Meanings.{Verdicts}
use Rattle.ctrl_handlers.specs.Plan.{PlanData}
use Rattle.ctrl_lists.specs.Answers.{answered, entries_judged, entries_read}
use Rattle.ctrl_lists.specs.Checks.{first_refusal}
use Rattle.frame_queue.specs.Frames.{next_frame}
use Rattle.device_history.specs.declared.ask.Ask.{Ask}
use Rattle.device_history.specs.declared.ask.Ask.TheVariants as asks
use Rattle.device_history.specs.declared.ask.Reply.{Reply}
use Rattle.device_history.specs.Steps.{Past}
use Rattle.device_history.specs.Refusals.{fault_by, fault_of, step_check, stepped, stepped_with, replied_with, unless_refused}
use Rattle.device_history.specs.Snapshots.{frames}
use Rattle.device_history.specs.RequestAnswers.{state_found}
use Rattle.device_history.specs.EventAnswers.{first_event}
use Rattle.device_history.specs.Forecasts.{forecast_at}
use Rattle.device_history.specs.Queries.{control_shown, id_behind, item_found, word_of}
use Rattle.device_history.specs.Lists.{controls_of, get_checks, read_view, set_checks, try_checks, write_view}
use Rattle.device_history.specs.Answers.{is_list, refusal}
use Rattle.device_history.specs.AskChecks.{check_of, fault_for, index_of, refusal_of}

-- whether a reply is refused, and with which fault, is told by the check
unless_by : (check : Option Check) (reply : Reply) → fault_of (unless_refused check reply) ≡ option_map fault_by check
unless_by None reply = refl
unless_by (Some check) reply = refl

stepped_by : (check : Option Check) (past : Past) (reply : Reply) → fault_of (stepped check past reply) ≡ option_map fault_by (step_check past check)
stepped_by check past reply = unless_by (step_check past check) reply

told_by : {X : Type 0} (reply : X → Reply) (found : Result X Check) → fault_of (replied_with reply found) ≡ option_map fault_by (result_err found)
told_by reply (Ok x) = refl
told_by reply (Err check) = refl

found_by : {X : Type 0} (reply : X → Reply) (found : Result X Check) (past : Past) → fault_of (stepped_with reply found past) ≡ option_map fault_by (step_check past (result_err found))
found_by reply (Ok x) past = stepped_by None past (reply x)
found_by reply (Err check) past = refl

-- so is it of each ask
pub refused_by_checks : (verdicts : Verdicts) (plan : PlanData) (past : Past) (ask : Ask) → is_list ask ≡ false → refusal verdicts plan past ask ≡ option_map fault_by (check_of verdicts plan past ask)
refused_by_checks verdicts plan past (asks.GetCtrls fh which request list) h = cc
refused_by_checks verdicts plan past (asks.SetCtrls fh which request list) h = cc
refused_by_checks verdicts plan past (asks.TryCtrls fh which request list) h = cc
refused_by_checks verdicts plan past asks.Begin h = found_by _ (next_frame (frames verdicts plan past)) past
refused_by_checks verdicts plan past asks.StreamOff h = stepped_by None past _
refused_by_checks verdicts plan past (asks.StateOf r) h = told_by _ (state_found past r)
refused_by_checks verdicts plan past (asks.Forecast place) h = told_by _ (forecast_at verdicts plan past place)
refused_by_checks verdicts plan past (asks.Take fh) h = found_by _ (first_event verdicts plan past fh) past
refused_by_checks verdicts plan past (asks.Query fh id) h = told_by _ (control_shown plan past fh id)
refused_by_checks verdicts plan past (asks.NextId fh id) h = told_by _ (id_behind plan past fh id)
refused_by_checks verdicts plan past (asks.MenuItem fh id index) h = told_by _ (item_found plan past fh id index)
refused_by_checks verdicts plan past (asks.Told cluster) h = told_by _ (word_of plan [] cluster)
refused_by_checks verdicts plan past _ h = stepped_by _ past _

-- a list, whose refusals are told so
list_so : (ask : Ask) (fault : Refusal → Fault) (first : Option Refusal) (entries : List ExtControl) → ((r : Refusal) → fault r ≡ fault_for ask r)
    → fault_of (controls_of (answered fault first entries)) ≡ option_map (fault_for ask) first
list_so ask fault None entries h = refl
list_so ask fault (Some r) entries h = ap Some (h r)

-- an ask that is no list
single_so : (ask : Ask) (check : Option Check) (fault : Option Fault) → index_of ask None ≡ None → fault ≡ option_map fault_by check
    → fault ≡ option_map (fault_for ask) (option_map whole check)
single_so ask None fault i h = h
single_so ask (Some check) fault i h = rw i h

pub explained : (verdicts : Verdicts) (plan : PlanData) (past : Past) (ask : Ask) → refusal verdicts plan past ask ≡ option_map (fault_for ask) (refusal_of verdicts plan past ask)
explained verdicts plan past (asks.GetCtrls fh which request list) =
    list_so (asks.GetCtrls fh which request list) (fault_at_count (length list)) (first_refusal (get_checks verdicts plan past fh which request list))
    (entries_read plan (read_view verdicts plan past fh which request) list) (λ r. refl)
explained verdicts plan past (asks.SetCtrls fh which request list) =
    list_so (asks.SetCtrls fh which request list) (fault_at_count (length list)) (first_refusal (set_checks verdicts plan past fh which request list))
    (entries_judged verdicts plan (write_view verdicts plan past fh which request) list) (λ r. refl)
explained verdicts plan past (asks.TryCtrls fh which request list) =
    list_so (asks.TryCtrls fh which request list) (fault_at_entry (length list)) (first_refusal (try_checks verdicts plan past fh which request list))
    (entries_judged verdicts plan (write_view verdicts plan past fh which request) list) (λ r. refl)
explained verdicts plan past ask = single_so ask (check_of verdicts plan past ask) (refusal verdicts plan past ask) refl (refused_by_checks verdicts plan past ask refl)
