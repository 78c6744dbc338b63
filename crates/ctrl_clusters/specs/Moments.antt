-- What contracts say of a moment, and of a change from one to another.
use Rattle.std.specs.Prelude.{ℕ, Bool, List}
use Rattle.ctrl_types.specs.declared.ids.Pair.{Pair}
use Rattle.ctrl_clusters.specs.Changes.{members_change}
use Rattle.ctrl_clusters.specs.ControlsData.{ControlsData, as_one}
use Rattle.ctrl_clusters.specs.declared.change.Change.{Change}
use Rattle.ctrl_clusters.specs.declared.moment.Moment.{Moment}

-- the ranges, the values and the grabs of a moment
abbrev pub parts : {V J T : Type 0} {v : _} {j : _} {n : _} {t : _} → Moment V J T v j n t → ControlsData
parts at = as_one at.ranges.now at.values.now at.grabs.now

-- those of the moment after a change
abbrev pub parts_after : {V J T : Type 0} {v : _} {j : _} {n : _} {t : _} → Change V J T v j n t → ControlsData
parts_after change = as_one change.ranges.now change.values.now change.grabs.now

-- whether some member of a cluster changes, where pairs are applied
abbrev pub moved : {V J T : Type 0} {v : _} {j : _} {n : _} {t : _} → Change V J T v j n t → List Pair → ℕ → Bool
moved change pairs k = members_change change.before.plan.now change.before.values.now change.values.now pairs k
