-- There is a present value, and a grab, for each control.
use Rattle.std.proofs.Common.{◌≡◌, List, [], ◌∷◌, length, Option, None, Some, refl, ◌∙◌}
use Rattle.std.specs.List.{range_with_len}
use Rattle.std.proofs.lemmas.List.{length-map, length-set}
use Rattle.std.proofs.lemmas.List.FromFn.{length-range_with_len}
use Rattle.ctrl_calls.specs.Meanings.{Verdicts}
use Rattle.ctrl_types.specs.declared.ids.Pair.{Pair}
use Rattle.ctrl_settle.specs.Control.{Control}
use Rattle.ctrl_handlers.specs.Plan.{PlanData}
use Rattle.device_history.specs.declared.ask.Step.{Step}
use Rattle.device_history.specs.declared.ask.Step.TheVariants as steps
use Rattle.device_history.specs.Steps.{Past}
use Rattle.ctrl_clusters.specs.ControlsData.{ControlsData, as_one}
use Rattle.ctrl_clusters.specs.Rows.{Values}
use Rattle.device_history.specs.Ranges.{ranges_now, settled_after}
use Rattle.device_history.specs.Grabs.{grabbed}
use Rattle.ctrl_clusters.proofs.OverlayLemmas.{length_overlay}
use Rattle.device_history.specs.Values.{pairs_asked, now, now_after, values_after}

-- pairs that are laid leave as many values
length_now_after : (verdicts : Verdicts) (plan : PlanData) (c : ControlsData) (pairs : Option (List Pair)) → length (now_after verdicts plan c pairs) ≡ length c.values
length_now_after verdicts plan c None = refl
length_now_after verdicts plan c (Some pairs) = length_overlay verdicts plan c.ranges c.values c.grabs pairs

-- a range change leaves as many
length_settled : (step : Step) (controls : List Control) (values : Values) → length (settled_after step controls values) ≡ length values
length_settled (steps.ModifyRange c low high apart default_value) controls values = length-set values c _
length_settled _ controls values = refl

-- so does any step
pub length_values_after : (verdicts : Verdicts) (plan : PlanData) (older : Past) (step : Step) (values : Values) → length (values_after verdicts plan older step values) ≡ length values
length_values_after verdicts plan older step values =
    let c : ControlsData = as_one (ranges_now plan older) values (grabbed plan older) in
    length_settled step c.ranges (now_after verdicts plan c (pairs_asked plan older step)) ∙ length_now_after verdicts plan c (pairs_asked plan older step)

-- there is a value for each control of the plan
pub length_now : (verdicts : Verdicts) (plan : PlanData) (past : Past) → length (now verdicts plan past) ≡ length plan.controls
unfolding now
length_now verdicts plan [] = length-map plan.controls _
length_now verdicts plan (e ∷ older) = length_values_after verdicts plan older e.step (now verdicts plan older) ∙ length_now verdicts plan older

-- for each control of the plan it is said whether it is grabbed
pub length_grabbed : (plan : PlanData) (past : Past) → length (grabbed plan past) ≡ length plan.controls
unfolding grabbed
length_grabbed plan past = length-map (range_with_len 0 (length plan.controls)) _ ∙ length-range_with_len 0 (length plan.controls)
