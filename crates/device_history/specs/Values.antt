-- The present values (Linux userspace API, "Extended Controls API" and "Request API"; Linux driver API, `v4l2_ctrl_modify_range`).
use Rattle.std.specs.Prelude.{[], ◌∷◌, List, map, Option, None, Some}
use Rattle.ctrl_types.specs.declared.ids.Pair.{Pair}
use Rattle.ctrl_clusters.specs.ControlsData.{ControlsData, as_one}
use Rattle.ctrl_clusters.specs.Rows.{Values}
use Rattle.ctrl_calls.specs.Meanings.{Verdicts}
use Rattle.ctrl_settle.specs.Control.{default_of}
use Rattle.ctrl_handlers.specs.Plan.{PlanData}
use Rattle.device_history.specs.declared.ask.Step.{Step}
use Rattle.device_history.specs.declared.ask.Step.TheVariants as steps
use Rattle.device_history.specs.Steps.{Past}
use Rattle.device_history.specs.Ranges.{ranges_now, settled_after}
use Rattle.device_history.specs.Grabs.{grabbed}
use Rattle.device_history.specs.Requests.{asked}
use Rattle.device_history.specs.Laid.{laid}

-- the values before the first step
abbrev pub defaults : PlanData → Values
defaults plan = map default_of plan.controls

-- The pairs that a step asks to have laid over the present values: those of a set; those that a request asks for, where its frame is begun.
abbrev pub pairs_asked : PlanData → Past → Step → Option (List Pair)
pairs_asked plan older (steps.Set fh pairs) = Some pairs
pairs_asked plan older (steps.Begin r) = Some (asked plan older r.0)
pairs_asked plan older _ = None

-- the values once a step's pairs were laid over them; where it lays none, the values as they are
abbrev pub now_after : Verdicts → PlanData → ControlsData → Option (List Pair) → Values
now_after verdicts plan at None = at.values
now_after verdicts plan at (Some pairs) = laid verdicts plan at pairs

-- What a step that follows a history makes of the values: it lays pairs over them, or settles the value of a control whose range it changes.
abbrev pub values_after : Verdicts → PlanData → Past → Step → Values → Values
values_after verdicts plan older step values = settled_after step (ranges_now plan older) (now_after verdicts plan (as_one (ranges_now plan older) values (grabbed plan older)) (pairs_asked plan older step))

-- the present values after a history: the defaults at first, and then what each step makes of them
unfoldable pub now : Verdicts → PlanData → Past → Values
now verdicts plan [] = defaults plan
now verdicts plan (e ∷ older) = values_after verdicts plan older e.step (now verdicts plan older)
