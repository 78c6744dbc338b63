-- The ranges of controls at a moment, and one that is changed (Linux driver API, `v4l2_ctrl_modify_range`).
use Rattle.std.specs.Prelude.{◌≡◌, ℕ, List, slice_set}
use Rattle.ctrl_settle.specs.Control.{Control}
use Rattle.ctrl_handlers.specs.Plan.{PlanData}
use Rattle.ctrl_clusters.specs.Rows.{AreControlsOf}

-- the same control with a range, which may be another: its id, its kind, its flags, its skipped items and its number of elements stay
pub record HasRangeFor (c changed : Control) : Type 0 where
  pub id : changed.id ≡ c.id
  pub kind : changed.kind ≡ c.kind
  pub flags : changed.flags ≡ c.flags
  pub skip : changed.skip ≡ c.skip
  pub elems : changed.elems ≡ c.elems

-- the controls, where one has another range
abbrev pub modified : List Control → ℕ → Control → List Control
modified controls c changed = slice_set controls c changed

-- they are the controls of each plan whose controls they were
abbrev pub StayControlsOf : List Control → List Control → Type 0
StayControlsOf before after = (plan : PlanData) → AreControlsOf plan before → AreControlsOf plan after
