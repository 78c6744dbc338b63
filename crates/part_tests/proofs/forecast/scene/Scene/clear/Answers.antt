use Rattle.std.proofs.Common.{◌∙◌, sym, ap}
use Rattle.ctrl_forecast.specs.Boards.{BoardData, board_of}
use Rattle.ctrl_forecast.specs.Forecasts.{forecasts}
use Rattle.part_tests.specs.Verdicts.{ordered_verdict}
use Rattle.part_tests.proofs.forecast.scene.Scene.clear.Goals as goal

pub invariant_of-self-clause-kept : goal.invariant_of-self-clause-kept
unfolding forecasts
invariant_of-self-clause-kept c =
    c.clear-2.ensures ∙ ap (board_of ordered_verdict c.args.self.now.plan.now c.args.self.now.controls.ranges c.args.self.now.controls.values c.args.self.now.controls.grabs) (sym (ap (λ (b : BoardData). b.queued) c.clear-2.ensures))
