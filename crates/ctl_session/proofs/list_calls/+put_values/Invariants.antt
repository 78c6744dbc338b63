use Rattle.std.proofs.Common.{length}
use Rattle.ctl_session.proofs.list_calls.+put_values.Given as goal

abbrev pub decreases-put_values : goal.decreases-put_values
decreases-put_values l = length l.list.now
