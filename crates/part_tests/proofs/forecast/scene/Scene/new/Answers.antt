use Rattle.std.proofs.Common.{◌∙◌, sym, ap}
use Rattle.ctrl_forecast.specs.Boards.{BoardData, board_of}
use Rattle.ctrl_forecast.specs.Forecasts.{forecasts}
use Rattle.part_tests.specs.Verdicts.{ordered_verdict}
use Rattle.part_tests.proofs.forecast.scene.Scene.new.Goals as goal

pub invariant_of-result-clause-kept : goal.invariant_of-result-clause-kept
unfolding forecasts
invariant_of-result-clause-kept c =
    c.empty.ensures
    ∙ ap (board_of ordered_verdict c.args.plan.now c.in_ok-of_plan.field-0.ranges c.in_ok-of_plan.field-0.values c.in_ok-of_plan.field-0.grabs) (sym (ap (λ (b : BoardData). b.queued) c.empty.ensures))
