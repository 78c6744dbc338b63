-- Queued frames that are kept, each with what it will have, and how one cluster is renewed in them (of this project).
use Rattle.std.specs.Prelude.{◌≡◌, ◌≢◌, ℕ, zero, suc, Bool, true, false, not, ◌<◌, if◌then◌else◌, List, [], length, map, filter, count_by, Result, Ok, Err, is_err, nat_eq, nat_lt, slice_index_or, slice_set}
use Rattle.std.specs.List.{list_any, range_with_len, insert}
use Rattle.ctrl_types.specs.declared.value.CtrlValue.{CtrlValue}
use Rattle.ctrl_types.specs.declared.errno.Errno.{Errno}
use Rattle.ctrl_types.specs.declared.ids.Pair.{Pair}
use Rattle.ctrl_types.specs.declared.ids.RequestId.{RequestId}
use Rattle.ctrl_calls.specs.Meanings.{Verdicts}
use Rattle.ctrl_settle.specs.Control.{Control}
use Rattle.ctrl_handlers.specs.Plan.{PlanData, members}
use Rattle.ctrl_clusters.specs.Rows.{Values, Grabs, row_of}
use Rattle.ctrl_clusters.specs.Overlay.{is_touched, row_after, overlay, refused_clusters}
use Rattle.ctrl_clusters.specs.NewRows.{one_row, written}
use Rattle.ctrl_clusters.specs.declared.moment.Moment.{Moment}
use Rattle.ctrl_clusters.specs.Rising.{AreRisingBelow, with_or_without}
use Rattle.ctrl_forecast.specs.Boards.{BoardData, named_clusters}
use Rattle.ctrl_forecast.specs.Forecasts.{QueuedData}
use Rattle.ctrl_forecast.specs.declared.board.Forecast.{Forecast}

-- a queued frame: what it asks for, the clusters with a member among that, and what it will have
pub record FrameData : Type 0 where
  pub request : RequestId
  pub buffer : ℕ
  pub asked : List Pair
  pub named : List ℕ
  pub values : Values
  pub refused : List ℕ

-- what stands for a place where no frame is
abbrev pub no_frame : FrameData
no_frame = record { request = record { 0 = 0 }; buffer = 0; asked = []; named = []; values = []; refused = [] }

-- the frame at a place
abbrev pub frame_at : List FrameData → ℕ → FrameData
frame_at frames i = slice_index_or frames i no_frame

-- the frame as it was queued
abbrev pub queued_of : FrameData → QueuedData
queued_of frame = record { request = frame.request; buffer = frame.buffer; asked = frame.asked }

-- what it will have
abbrev pub forecast_of : FrameData → Forecast
forecast_of frame = record { request = frame.request; buffer = frame.buffer; values = frame.values; refused = frame.refused }

-- frames as they are kept
abbrev pub board_seen : List FrameData → BoardData
board_seen frames = record { queued = map queued_of frames; named = map (λ f. f.named) frames; forecasts = map forecast_of frames }

-- a frame that is queued over values
abbrev pub frame_over : Verdicts → PlanData → List Control → Values → Grabs → QueuedData → FrameData
frame_over verdicts plan controls values grabs q = record {
  request = q.request;
  buffer = q.buffer;
  asked = q.asked;
  named = named_clusters plan q.asked;
  values = overlay verdicts plan controls values grabs q.asked;
  refused = refused_clusters verdicts plan controls values grabs q.asked;
}

-- what frames stand under: the judges, the plan, its controls with their ranges, the values before the first frame, and the grabs
pub record Setting : Type 0 where
  pub verdicts : Verdicts
  pub plan : PlanData
  pub controls : List Control
  pub values : Values
  pub grabs : Grabs

abbrev pub setting : Verdicts → PlanData → List Control → Values → Grabs → Setting
setting verdicts plan controls values grabs = record { verdicts = verdicts; plan = plan; controls = controls; values = values; grabs = grabs }

-- what they stand under at a moment
abbrev pub setting_at : {V J T : Type 0} {v : _} {j : _} {n : _} {t : _} → Verdicts → Moment V J T v j n t → Setting
setting_at verdicts at = setting verdicts at.plan.now at.ranges.now at.values.now at.grabs.now

-- what pairs make of a cluster over some values
abbrev pub row_result : Setting → Values → List Pair → ℕ → Result (List CtrlValue) Errno
row_result s base pairs k = row_after s.verdicts s.plan s.controls base s.grabs pairs k

-- the row that comes of it; a refused cluster keeps its own
abbrev pub row_or : List CtrlValue → Result (List CtrlValue) Errno → List CtrlValue
row_or own (Ok row) = row
row_or own (Err errno) = own

-- the row that a cluster has then
abbrev pub row_over : Setting → Values → List Pair → ℕ → List CtrlValue
row_over s base pairs k = row_or (row_of base (members s.plan k)) (row_result s base pairs k)

-- the values before the frame at a place, where these stand before the first
abbrev pub values_before : Values → List FrameData → ℕ → Values
values_before values frames zero = values
values_before values frames (suc i) = (frame_at frames i).values

abbrev pub base_at : Setting → List FrameData → ℕ → Values
base_at s frames i = values_before s.values frames i

-- a frame where one cluster has a row, and is refused or isn't
abbrev pub with_row_result : PlanData → ℕ → List CtrlValue → Bool → FrameData → FrameData
with_row_result plan k row is_refused frame = record frame { values = written plan frame.values (one_row k row); refused = with_or_without k is_refused frame.refused }

-- a frame where one cluster is as its pairs make it over these values
abbrev pub renewed : Setting → Values → ℕ → FrameData → FrameData
renewed s base k frame = with_row_result s.plan k (row_over s base frame.asked k) (is_err (row_result s base frame.asked k)) frame

-- frames of which the one at a place is renewed
abbrev pub renewed_at : Setting → ℕ → ℕ → List FrameData → List FrameData
renewed_at s k i frames = slice_set frames i (renewed s (base_at s frames i) k (frame_at frames i))

-- What holds of every frame, whatever its values are: it has one for each control, and each refused cluster is one that its pairs name.
pub record IsKeptFrame (plan : PlanData) (frame : FrameData) : Type 0 where
  pub long : length frame.values ≡ length plan.controls
  pub rising : AreRisingBelow (length plan.clusters) frame.refused
  pub names : frame.named ≡ named_clusters plan frame.asked
  pub touched : (k : ℕ) → k < length plan.clusters → list_any (nat_eq k) frame.refused ≡ true → is_touched frame.asked (members plan k) ≡ true

unfoldable pub AreKeptFrames : PlanData → List FrameData → Type 0
AreKeptFrames plan frames = (i : ℕ) → i < length frames → IsKeptFrame plan (frame_at frames i)

-- one cluster of the frame at a place is as its pairs make it over the values before it
pub record IsRightAt (s : Setting) (frames : List FrameData) (k i : ℕ) : Type 0 where
  pub row : row_of (frame_at frames i).values (members s.plan k) ≡ row_over s (base_at s frames i) (frame_at frames i).asked k
  pub refused : list_any (nat_eq k) (frame_at frames i).refused ≡ is_err (row_result s (base_at s frames i) (frame_at frames i).asked k)

-- Frames are right but for some clusters from a place on.
pub record AreReady (s : Setting) (from : ℕ) (left : List ℕ) (frames : List FrameData) : Type 0 where
  pub frames_ok : AreKeptFrames s.plan frames
  pub before : (k i : ℕ) → k < length s.plan.clusters → i < from → i < length frames → IsRightAt s frames k i
  pub apart : (k i : ℕ) → k < length s.plan.clusters → list_any (nat_eq k) left ≡ false → i < length frames → IsRightAt s frames k i

-- Frames are right but for some clusters of the one at a place.
pub record AreReadyAt (s : Setting) (place : ℕ) (left : List ℕ) (frames : List FrameData) : Type 0 where
  pub frames_ok : AreKeptFrames s.plan frames
  pub elsewhere : (k i : ℕ) → k < length s.plan.clusters → i ≢ place → i < length frames → IsRightAt s frames k i
  pub apart : (k i : ℕ) → k < length s.plan.clusters → list_any (nat_eq k) left ≡ false → i < length frames → IsRightAt s frames k i

-- one cluster of each frame has the row that it had, and is refused or not as it was
pub record IsAlikeIn (plan : PlanData) (k : ℕ) (old new : List FrameData) : Type 0 where
  pub rows : (i : ℕ) → row_of (frame_at new i).values (members plan k) ≡ row_of (frame_at old i).values (members plan k)
  pub refused : (i : ℕ) → list_any (nat_eq k) (frame_at new i).refused ≡ list_any (nat_eq k) (frame_at old i).refused

-- Some clusters are renewed: they are right in all frames, and every other one is as it was.
pub record AreRenewed (s : Setting) (done : List ℕ) (old new : List FrameData) : Type 0 where
  pub frames_ok : AreKeptFrames s.plan new
  pub queued : map queued_of new ≡ map queued_of old
  pub right : (k i : ℕ) → k < length s.plan.clusters → list_any (nat_eq k) done ≡ true → i < length new → IsRightAt s new k i
  pub stay : (k : ℕ) → k < length s.plan.clusters → list_any (nat_eq k) done ≡ false → IsAlikeIn s.plan k old new

-- One cluster is renewed in the frames below a place: it is right there, and no other cluster is less right than before.
pub record IsClusterRenewed (s : Setting) (k below : ℕ) (old new : List FrameData) : Type 0 where
  pub frames_ok : AreKeptFrames s.plan new
  pub queued : map queued_of new ≡ map queued_of old
  pub here : (i : ℕ) → i < below → i < length new → IsRightAt s new k i
  pub stay : (j i : ℕ) → j < length s.plan.clusters → j ≢ k → i < length new → IsRightAt s old j i → IsRightAt s new j i
