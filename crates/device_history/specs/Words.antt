-- Which controls a step changes, so that their clusters are notified (Linux driver API, "V4L2 Controls", "Adding Notify Callbacks").
use Rattle.std.specs.Prelude.{ℕ, Bool, false, List, [], Option, None, Some}
use Rattle.ctrl_types.specs.declared.ids.Pair.{Pair}
use Rattle.ctrl_calls.specs.Meanings.{Verdicts}
use Rattle.ctrl_handlers.specs.Plan.{PlanData}
use Rattle.ctrl_clusters.specs.Rows.{Values, value_at}
use Rattle.ctrl_clusters.specs.Changes.{is_changed}
use Rattle.device_history.specs.declared.ask.Step.{Step}
use Rattle.device_history.specs.declared.ask.Step.TheVariants as steps
use Rattle.device_history.specs.Steps.{Past}
use Rattle.device_history.specs.Snapshots.{begun_pairs}

-- The pairs of a step that were applied, so that a control among them that acts on each write does so: all that are set; of a request
-- whose frame is begun those of the clusters that aren't refused; of a range change, which can change a value too, none. No other step changes a value.
abbrev pub pairs_applied : Verdicts → PlanData → Past → Step → Option (List Pair)
pairs_applied verdicts plan older (steps.Set fh pairs) = Some pairs
pairs_applied verdicts plan older (steps.Begin r) = Some (begun_pairs verdicts plan older r.0)
pairs_applied verdicts plan older (steps.ModifyRange c low high apart default_value) = Some []
pairs_applied verdicts plan older _ = None

-- whether a step changes a control, from the values before to those after, where these pairs were applied; a step that can change no value changes none
abbrev pub changes : PlanData → Values → Values → Option (List Pair) → ℕ → Bool
changes plan before after None c = false
changes plan before after (Some pairs) c = is_changed plan before pairs c (value_at after c)
