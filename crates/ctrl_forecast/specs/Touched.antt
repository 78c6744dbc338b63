-- How many clusters pairs touch (of this project).
use Rattle.std.specs.Prelude.{ℕ, List, length, count_by}
use Rattle.std.specs.List.{range_with_len}
use Rattle.ctrl_types.specs.declared.ids.Pair.{Pair}
use Rattle.ctrl_handlers.specs.Plan.{PlanData, members}
use Rattle.ctrl_clusters.specs.Overlay.{is_touched}

-- how many clusters have a member among the pairs
abbrev pub touched_count : PlanData → List Pair → ℕ
touched_count plan pairs = count_by (λ k. is_touched pairs (members plan k)) (range_with_len 0 (length plan.clusters))
