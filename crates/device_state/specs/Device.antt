-- What a device is seen as, and what a call does to it (of this project).
use Rattle.std.specs.Prelude.{◌≡◌, ◌⊎◌, ◌+◌, ℕ, Bool, true, false, ◌≤◌, [], ◌∷◌, ◌++◌, List, Option, None, Some, Ok, Err, IsErr, IsOk, length, ◌<◌, slice_index}
use Rattle.std.specs.List.{list_any}
use Rattle.history.specs.Past.{past, entered}
use Rattle.ctrl_calls.specs.declared.work.Work.{Work}
use Rattle.device_history.specs.declared.ask.Ask.{Ask}
use Rattle.device_history.specs.declared.ask.Ask.TheVariants as asks
use Rattle.device_history.specs.declared.ask.Step.{Step}
use Rattle.device_history.specs.declared.ask.Step.TheVariants as steps
use Rattle.ctrl_handlers.specs.Plan.{PlanData, cluster_of, members}
use Rattle.ctrl_calls.specs.Meanings.{Verdicts}
use Rattle.ctrl_clusters.specs.Notified.{notified_count}
use Rattle.ctrl_lists.specs.Checks.{first_refusal}
use Rattle.ctrl_lists.specs.Touched.{touched, judged_count, none_where, with_calls}
use Rattle.device_history.specs.Steps.{History, Past}
use Rattle.device_history.specs.Values.{now, values_after}
use Rattle.device_history.specs.Words.{pairs_applied, changes}
use Rattle.device_history.specs.Snapshots.{frames, request as request_of}
use Rattle.ctrl_forecast.specs.Forecasts.{named_by_frames}
use Rattle.device_parts.specs.QueuedFrames.{asks_at_most}
use Rattle.device_history.specs.Forecasts.{queued_frames}
use Rattle.device_history.specs.Refusals.{Answer}
use Rattle.device_history.specs.Answers.{MayAnswer, taken}
use Rattle.device_history.specs.AskChecks.{refusal_of}
use Rattle.device_history.specs.Lists.{checks_before_judging, list_pairs, which_or}
use Rattle.ctrl_types.specs.Classes.{which_of}
use Rattle.ctrl_types.specs.Refusals.{memory_refusal}
use Rattle.ctrl_types.specs.declared.refusal.Refusal.{Refusal}
use Rattle.ctrl_types.specs.declared.which.Which.{Which}
use Rattle.ctrl_types.specs.declared.which.Which.TheVariants.{Request}
use Rattle.ctrl_types.specs.declared.ids.ExtControl.{ExtControl}
use Rattle.ctrl_types.specs.declared.ids.FhId.{FhId}
use Rattle.ctrl_types.specs.declared.ids.RequestId.{RequestId}
use Rattle.req_book.specs.Requests.{RequestData}

-- A device: what it was built of, the steps that it accepted, the words that its clusters were told last, and how often
-- the last call asked validators and told notifiers.
pub record DeviceData : Type 0 where
  pub plan : PlanData
  pub steps : History
  pub words : List ℕ
  pub work : Work

-- the device with one more step
abbrev pub with_step : DeviceData → ℕ → Step → DeviceData
with_step device seat step = record device { steps = device.steps ++ record { seat = seat; step = step } ∷ [] }

-- the request with an id, where the device has one
abbrev pub request_now : Verdicts → DeviceData → RequestId → Option RequestData
request_now verdicts device id = request_of verdicts device.plan (past device.steps) id.0

-- whether a step changes a control, after a past
abbrev pub step_changes : Verdicts → PlanData → Past → Option Step → ℕ → Bool
step_changes verdicts plan past None c = false
step_changes verdicts plan past (Some step) c =
    changes plan (now verdicts plan past) (values_after verdicts plan past step (now verdicts plan past)) (pairs_applied verdicts plan past step) c

-- so many validators at most, and none where a check before judging refuses the list
abbrev pub list_most : Verdicts → PlanData → Past → FhId → ℕ → Option RequestId → Bool → List ExtControl → ℕ → ℕ
list_most verdicts plan past fh which request is_set list most = none_where (first_refusal (checks_before_judging verdicts plan past fh which request is_set list)) most

-- how many clusters a list touches
abbrev pub list_touches : PlanData → Past → FhId → ℕ → List ExtControl → ℕ
list_touches plan past fh which list = length (touched plan (list_pairs plan past fh which list))

-- how many validators are asked at most for the forecasts where some clusters are set: none where they are stored in a request, and else one for each
-- of them and each queued frame that names it
abbrev pub forecast_asks : PlanData → Past → Which → List ℕ → ℕ
forecast_asks plan past Request clusters = 0
forecast_asks plan past _ clusters = named_by_frames plan (queued_frames plan past) clusters

-- how many where a control of a cluster is grabbed, or given another range
abbrev pub cluster_asks : PlanData → Past → Option ℕ → ℕ
cluster_asks plan past None = 0
cluster_asks plan past (Some k) = named_by_frames plan (queued_frames plan past) (k ∷ [])

-- so many where an ask is accepted, and none where it is refused
abbrev pub where_accepted : Answer → ℕ → ℕ
where_accepted (Ok reply) most = most
where_accepted (Err fault) most = 0

-- How many validators an ask may have asked with this answer: a set and a try one for each cluster that they touch, and a set of present values one more for each
-- queued frame that names the cluster, but none where the list is refused before a cluster is judged; queueing one for each cluster that its
-- request names, and a cancellation one for each of these and each frame queued behind that names it too; a grab and a range change one for each queued
-- frame that names the cluster, but none where they are refused; every other ask none, so that the begin of a frame and a forecast ask nobody.
abbrev pub may_ask : Verdicts → PlanData → Past → Ask → Answer → ℕ
may_ask verdicts plan past (asks.SetCtrls fh which request list) answer =
    list_most verdicts plan past fh which request true list
    (list_touches plan past fh which list + forecast_asks plan past (which_or (which_of which)) (touched plan (list_pairs plan past fh which list)))
may_ask verdicts plan past (asks.TryCtrls fh which request list) answer = list_most verdicts plan past fh which request false list (list_touches plan past fh which list)
may_ask verdicts plan past (asks.Queue id) answer = asks_at_most plan (frames verdicts plan past) (steps.Queue id) (queued_frames plan past)
may_ask verdicts plan past (asks.Cancel id) answer = asks_at_most plan (frames verdicts plan past) (steps.Cancel id) (queued_frames plan past)
may_ask verdicts plan past (asks.Grab c on) answer = where_accepted answer (cluster_asks plan past (cluster_of plan c))
may_ask verdicts plan past (asks.ModifyRange c low high apart default_value) answer = where_accepted answer (cluster_asks plan past (cluster_of plan c))
may_ask verdicts plan past _ answer = 0

-- how many are asked at most where it is only looked for what refuses an ask: one for each cluster that a list which writes touches, but none where it is refused before a
-- cluster is judged
abbrev pub may_judge : Verdicts → PlanData → Past → Ask → ℕ
may_judge verdicts plan past (asks.SetCtrls fh which request list) = list_most verdicts plan past fh which request true list (list_touches plan past fh which list)
may_judge verdicts plan past (asks.TryCtrls fh which request list) = list_most verdicts plan past fh which request false list (list_touches plan past fh which list)
may_judge verdicts plan past _ = 0

-- how many validators a set and a try ask at least, where they are accepted: one for each cluster that they touch and that has one; every other ask none
abbrev pub must_ask : PlanData → Past → Ask → ℕ
must_ask plan past (asks.SetCtrls fh which request list) = judged_count plan (touched plan (list_pairs plan past fh which list))
must_ask plan past (asks.TryCtrls fh which request list) = judged_count plan (touched plan (list_pairs plan past fh which list))
must_ask plan past _ = 0

-- what may refuse an ask: the first check that doesn't hold, or want of memory
abbrev pub MayRefuse : Verdicts → DeviceData → Ask → Refusal → Type 0
MayRefuse verdicts device ask refusal = (refusal_of verdicts device.plan (past device.steps) ask ≡ Some refusal) ⊎ (refusal ≡ memory_refusal)

-- What a call at a seat does: the answer is one that the ask may get, and the steps grow by the one that it takes, or by none.
-- Each cluster with a changed member is told once, and the word of every other stays. Validators are asked as often as `may_ask` says at most.
pub record Handles (verdicts : Verdicts) (old new : DeviceData) (seat : ℕ) (ask : Ask) (answer : Answer) : Type 0 where
  pub plan : new.plan ≡ old.plan
  pub answers : MayAnswer verdicts old.plan (past old.steps) old.words ask answer
  -- a refused call changes nothing but the counts of work
  pub refused : IsErr answer → new ≡ record old { work = new.work }
  pub steps : new.steps ≡ old.steps ++ entered seat (taken verdicts old.plan (past old.steps) ask answer)
  pub words : (k : ℕ) → k < length old.plan.clusters
      → list_any (step_changes verdicts old.plan (past old.steps) (taken verdicts old.plan (past old.steps) ask answer)) (members old.plan k) ≡ false
      → slice_index new.words k ≡ slice_index old.words k
  pub notified : new.work.told ≡ notified_count old.plan (λ k. list_any (step_changes verdicts old.plan (past old.steps) (taken verdicts old.plan (past old.steps) ask answer)) (members old.plan k))
  pub asked : new.work.asked ≤ may_ask verdicts old.plan (past old.steps) ask answer
  pub asked_all : IsOk answer → with_calls (must_ask old.plan (past old.steps) ask) 0 ≤ new.work.asked
