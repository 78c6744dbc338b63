use Rattle.std.proofs.Common.{sym}
use Rattle.history.specs.Past.{past}
use Rattle.ctrl_forecast.specs.Looks.{seen}
use Rattle.frame_reasons.proofs.FrameReasons.{frame_long}
use Rattle.frame_reasons.proofs.refused.values_before.Goals as goal

-- the frame before has a value for each control
pub returns-in-Some-row-clause-long : goal.returns-in-Some-row-clause-long
returns-in-Some-row-clause-long g c =
    frame_long g.D.Validates.verdict c.args.device.now.plan (past c.args.device.now.steps) c.in-Some.last (seen c.in-Some-row.row) (sym c.in-Some-row.ensures)
