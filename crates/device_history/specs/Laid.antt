-- What pairs make that are laid over the values of controls, under their ranges and grabs (Linux driver API, "V4L2 Controls", "Control Clusters"; that a cluster which
-- is refused keeps its values is of this project).
use Rattle.std.specs.Prelude.{ℕ, List}
use Rattle.ctrl_types.specs.declared.ids.Pair.{Pair}
use Rattle.ctrl_calls.specs.Meanings.{Verdicts}
use Rattle.ctrl_handlers.specs.Plan.{PlanData}
use Rattle.ctrl_clusters.specs.ControlsData.{ControlsData}
use Rattle.ctrl_clusters.specs.Overlay.{overlay, refused_clusters}
use Rattle.ctrl_clusters.specs.Rows.{Values}
use Rattle.ctrl_forecast.specs.Applied.{applied_pairs}

-- the values then
abbrev pub laid : Verdicts → PlanData → ControlsData → List Pair → Values
laid verdicts plan at pairs = overlay verdicts plan at.ranges at.values at.grabs pairs

-- the clusters that are refused
abbrev pub refused_over : Verdicts → PlanData → ControlsData → List Pair → List ℕ
refused_over verdicts plan at pairs = refused_clusters verdicts plan at.ranges at.values at.grabs pairs

-- what is applied of the pairs: those whose cluster isn't refused, each with its value afterwards
abbrev pub applied_over : Verdicts → PlanData → ControlsData → List Pair → List Pair
applied_over verdicts plan at pairs = applied_pairs plan (laid verdicts plan at pairs) (refused_over verdicts plan at pairs) pairs
