-- The ranges, the values and the grabs of all controls after a history, as one, and what one more step makes of them (Linux driver API, "V4L2 Controls";
-- Linux userspace API, "Extended Controls API" and "Request API"; the parts are told in specs/Ranges, specs/Values and specs/Grabs).
use Rattle.ctrl_calls.specs.Meanings.{Verdicts}
use Rattle.ctrl_clusters.specs.ControlsData.{ControlsData, as_one}
use Rattle.ctrl_handlers.specs.Plan.{PlanData}
use Rattle.device_history.specs.declared.ask.Step.{Step}
use Rattle.device_history.specs.Steps.{Past}
use Rattle.device_history.specs.Ranges.{ranges_after, ranges_now, settled_after}
use Rattle.device_history.specs.Grabs.{grabbed, grabbed_after}
use Rattle.device_history.specs.Values.{now, now_after, pairs_asked}

-- the present ranges, values and grabs
abbrev pub controls_now : Verdicts → PlanData → Past → ControlsData
controls_now verdicts plan past = as_one (ranges_now plan past) (now verdicts plan past) (grabbed plan past)

-- What a step that follows a history makes of them, as the law `present_controls` says: a range change gives one control another range, and its value is settled by it or
-- is the new default; a set and a begin lay pairs over the values; a grab holds a control or lets it go; every other step leaves them.
abbrev pub controls_after : Verdicts → PlanData → Past → Step → ControlsData → ControlsData
controls_after verdicts plan older step at =
    as_one (ranges_after step at.ranges) (settled_after step at.ranges (now_after verdicts plan at (pairs_asked plan older step))) (grabbed_after step at.grabs)
