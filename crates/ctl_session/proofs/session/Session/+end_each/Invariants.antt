use Rattle.std.proofs.Common.{length}
use Rattle.ctl_session.proofs.session.Session.+end_each.Given as goal

abbrev pub decreases-end_each : goal.decreases-end_each
decreases-end_each g l = length l.controls.now
