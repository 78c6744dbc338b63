-- Why a cluster of a queued frame will be refused (of this project; what a cluster makes of a row is of the Linux driver API, "V4L2 Controls", "Control Clusters").
use Rattle.std.specs.Prelude.{ℕ, zero, suc, ◌&&◌, if◌then◌else◌, nat_eq, List, [], ◌∷◌, Option, None, Some, unwrap_or, slice_get, Result, Ok, Err}
use Rattle.std.specs.List.{list_any, find as first_that}
use Rattle.std.specs.Option.{option_map}
use Rattle.std.specs.Result.{result_map_both}
use Rattle.ctrl_types.specs.Checks.{errno_of}
use Rattle.ctrl_types.specs.Pairs.{last_value}
use Rattle.ctrl_types.specs.declared.errno.Errno.{Errno}
use Rattle.ctrl_types.specs.declared.errno.Errno.TheVariants.{EBUSY}
use Rattle.ctrl_types.specs.declared.ids.Pair.{Pair}
use Rattle.ctrl_types.specs.declared.value.CtrlValue.{CtrlValue}
use Rattle.ctrl_calls.specs.Meanings.{Verdicts}
use Rattle.ctrl_settle.specs.Control.{Control}
use Rattle.ctrl_settle.specs.Settle.{settle_value}
use Rattle.ctrl_handlers.specs.Plan.{PlanData, control_in, members}
use Rattle.ctrl_clusters.specs.Rows.{Values, value_at, Grabs, is_grabbed}
use Rattle.ctrl_clusters.specs.Judging.{judge}
use Rattle.ctrl_clusters.specs.Overlay.{is_among}
use Rattle.ctrl_forecast.specs.declared.board.Forecast.{Forecast}
use Rattle.history.specs.Past.{past}
use Rattle.device_history.specs.Ranges.{ranges_now}
use Rattle.device_history.specs.Grabs.{grabbed}
use Rattle.device_history.specs.Requests.{asked}
use Rattle.device_history.specs.Forecasts.{forecast}
use Rattle.device_history.specs.Values.{now}
use Rattle.device_state.specs.Device.{DeviceData}
use Rattle.frame_reasons.specs.declared.refused.ClusterReason.{ClusterReason}
use Rattle.frame_reasons.specs.declared.refused.ClusterReason.TheVariants.{Grabbed, ValueNotTaken, RowNotTaken}

-- the first of some members that is among the pairs, and grabbed
abbrev pub first_grabbed : Grabs → List Pair → List ℕ → Option ℕ
first_grabbed grabs pairs members = first_that (λ c. is_among pairs c && is_grabbed grabs c) members

-- what a control would have: the value of its last pair, or else the one before
abbrev pub wanted : Values → List Pair → ℕ → CtrlValue
wanted values pairs c = unwrap_or (last_value pairs c) (value_at values c)

-- what a control takes for what it would have; the error is why it takes nothing
abbrev pub value_taken : List Control → Values → List Pair → ℕ → Result CtrlValue ClusterReason
value_taken controls values pairs c =
    result_map_both (λ taken. taken) (ValueNotTaken c (wanted values pairs c)) (settle_value (control_in controls c).kind (control_in controls c) (wanted values pairs c))

-- what a member takes, before what the others take; the first that takes nothing is meant
abbrev pub taken_before : Result CtrlValue ClusterReason → Result (List CtrlValue) ClusterReason → Result (List CtrlValue) ClusterReason
taken_before (Err reason) rest = Err reason
taken_before (Ok taken) (Err reason) = Err reason
taken_before (Ok taken) (Ok row) = Ok (taken ∷ row)

-- What members take for what they would have, in member order; or why the first takes nothing that doesn't.
abbrev pub taken_row : List Control → Values → List Pair → List ℕ → Result (List CtrlValue) ClusterReason
taken_row controls values pairs [] = Ok []
taken_row controls values pairs (c ∷ cs) = taken_before (value_taken controls values pairs c) (taken_row controls values pairs cs)

-- the reason of a row: why a member takes nothing, or else the row
abbrev pub row_reason : Result (List CtrlValue) ClusterReason → ClusterReason
row_reason (Err reason) = reason
row_reason (Ok row) = RowNotTaken row

-- a grabbed member comes first
abbrev pub first_reason : Option ℕ → Result (List CtrlValue) ClusterReason → ClusterReason
first_reason (Some c) row = Grabbed c
first_reason None row = row_reason row

-- Why a cluster is refused where these pairs are laid over these values, once it is: a member among the pairs is grabbed; else a member takes nothing for
-- what it would have; else the cluster doesn't take the row that settled. The first such member is meant.
abbrev pub cluster_reason : PlanData → List Control → Values → Grabs → List Pair → ℕ → ClusterReason
cluster_reason plan controls values grabs pairs k = first_reason (first_grabbed grabs pairs (members plan k)) (taken_row controls values pairs (members plan k))

-- what a reason makes of the row of a cluster
abbrev pub row_by : Verdicts → PlanData → List Control → ℕ → ClusterReason → Result (List CtrlValue) Errno
row_by verdicts plan controls k (Grabbed c) = Err EBUSY
row_by verdicts plan controls k (ValueNotTaken c v check) = Err (errno_of check)
row_by verdicts plan controls k (RowNotTaken row) = judge verdicts plan controls k row

-- the ranges and the grabs that a device has
abbrev pub ranges_in : DeviceData → List Control
ranges_in device = ranges_now device.plan (past device.steps)

abbrev pub grabs_in : DeviceData → Grabs
grabs_in device = grabbed device.plan (past device.steps)

-- why a cluster is refused under the ranges and the grabs that a device has
abbrev pub reason_over : DeviceData → Values → List Pair → ℕ → ClusterReason
reason_over device values pairs k = cluster_reason device.plan (ranges_in device) values (grabs_in device) pairs k

-- why some members are, where none is grabbed that is asked for
abbrev pub reason_of_row : DeviceData → Values → List Pair → List ℕ → ClusterReason
reason_of_row device values pairs members = row_reason (taken_row (ranges_in device) values pairs members)

-- what the queued frames of a device will have
abbrev pub frames_in : Verdicts → DeviceData → List Forecast
frames_in verdicts device = forecast verdicts device.plan (past device.steps)

-- the values before one of these frames, at a place of the queue: the present ones, or those that the frame before it leaves
abbrev pub values_before_frame : Values → List Forecast → ℕ → Values
values_before_frame present rows zero = present
values_before_frame present rows (suc last) = unwrap_or (option_map (λ row. row.values) (slice_get rows last)) present

-- the values before the frame at a place of a device's queue
abbrev pub values_before_place : Verdicts → DeviceData → ℕ → Values
values_before_place verdicts device place = values_before_frame (now verdicts device.plan (past device.steps)) (frames_in verdicts device) place

-- why a cluster will be refused in a frame, where there is one and the cluster is among those that will be refused
abbrev pub reason_in : DeviceData → Values → ℕ → Option Forecast → Option ClusterReason
reason_in device values k None = None
reason_in device values k (Some row) =
    if list_any (λ j. nat_eq j k) row.refused then Some (reason_over device values (asked device.plan (past device.steps) row.request.0) k) else None

-- Why a cluster will be refused in the frame that is queued at a place; none where no frame is queued there, or it won't be refused.
abbrev pub frame_reason : Verdicts → DeviceData → ℕ → ℕ → Option ClusterReason
frame_reason verdicts device place k = reason_in device (values_before_place verdicts device place) k (slice_get (frames_in verdicts device) place)
