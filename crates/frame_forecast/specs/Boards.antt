-- The queued frames that a device keeps, with what each of them changes (of this project).
use Rattle.std.specs.Prelude.{◌≡◌, ◌<◌, ◌+◌, ℕ, false, List, [], length, map, filter, slice_index_or}
use Rattle.std.specs.List.{range_with_len}
use Rattle.ctrl_types.specs.declared.ids.Pair.{Pair}
use Rattle.ctrl_calls.specs.Meanings.{Verdicts}
use Rattle.ctrl_settle.specs.Control.{Control}
use Rattle.ctrl_handlers.specs.Plan.{PlanData, cluster_of, members, control_in}
use Rattle.ctrl_clusters.specs.ControlsData.{ControlsData, DifferIn, is_in_one_of}
use Rattle.ctrl_clusters.specs.Rows.{AreControlsOf, is_grabbed}
use Rattle.ctrl_clusters.specs.Overlay.{is_touched}
use Rattle.ctrl_forecast.specs.Forecasts.{QueuedData}
use Rattle.ctrl_forecast.specs.Boards.{named_clusters}
use Rattle.frame_forecast.specs.Sparse.{IsRightOver, SparseFrame, queued_sparse, sparse_at, values_upto}
use Rattle.frame_forecast.specs.Kept.{IsKeptSparse}

-- room to judge a frame in: a range for each control, and so many values, twice
pub record RoomData : Type 0 where
  pub ranges : List Control
  pub values : ℕ
  pub spare : ℕ

-- the queued frames, in their order, and room to judge them in
pub record BoardData : Type 0 where
  pub frames : List SparseFrame
  pub room : RoomData

-- the frames as they were queued
abbrev pub queued_in : BoardData → List QueuedData
queued_in board = map queued_sparse board.frames

-- There is room for each control of a plan.
pub record IsRoomFor (plan : PlanData) (room : RoomData) : Type 0 where
  pub ranges : AreControlsOf plan room.ranges
  pub values : room.values ≡ length plan.controls
  pub spare : room.spare ≡ length plan.controls

-- What is kept of queued frames where the first stands over these ranges, values and grabs: each gives values to just the controls that its pairs can move, and these
-- and its refused clusters are those of its pairs, laid over what the frame before leaves, and followed. Nothing of it depends on what was kept before.
pub record IsBoard (verdicts : Verdicts) (plan : PlanData) (c : ControlsData) (queued : List QueuedData) (board : BoardData) : Type 0 where
  pub are_queued : queued_in board ≡ queued
  pub kept : (i : ℕ) → i < length board.frames → IsKeptSparse plan (sparse_at board.frames i)
  pub right : (i : ℕ) → i < length board.frames → IsRightOver verdicts plan c.ranges c.grabs (values_upto c.values board.frames i) (sparse_at board.frames i)
  pub room : IsRoomFor plan board.room

-- Ranges, values and grabs differ from those before in some clusters at most: every control of another cluster has its range and its value, and is
-- grabbed or not, as it was.
pub record DifferOnlyIn (plan : PlanData) (clusters : List ℕ) (before after : ControlsData) : Type 0 where
  pub ranges_stay : (c : ℕ) → is_in_one_of clusters (cluster_of plan c) ≡ false → control_in before.ranges c ≡ control_in after.ranges c
  pub values_stay : DifferIn plan clusters before.values after.values
  pub grabs_stay : (c : ℕ) → is_in_one_of clusters (cluster_of plan c) ≡ false → is_grabbed before.grabs c ≡ is_grabbed after.grabs c
