-- What holds of a sparse frame whatever its values are (of this project).
use Rattle.std.specs.Prelude.{◌≡◌, length}
use Rattle.ctrl_handlers.specs.Plan.{PlanData}
use Rattle.ctrl_clusters.specs.Following.{reached_clusters}
use Rattle.frame_forecast.specs.Sparse.{HasLinks, IsNaming, SparseFrame}

-- a frame has a value for each control that it moves
unfoldable pub IsPaired : SparseFrame → Type 0
IsPaired frame = length frame.given ≡ length frame.moved

-- what holds of a frame whatever its values are
pub record IsKeptSparse (plan : PlanData) (frame : SparseFrame) : Type 0 where
  pub has : HasLinks plan frame
  pub naming : IsNaming plan frame
  pub reaches : frame.reached ≡ reached_clusters plan frame.named
  pub paired : IsPaired frame
