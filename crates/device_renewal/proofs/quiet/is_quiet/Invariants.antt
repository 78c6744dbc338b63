use Rattle.std.proofs.Common.{take}
use Rattle.history.specs.Past.{past}
use Rattle.device_renewal.proofs.QuietLemmas.{AllGone}
use Rattle.device_renewal.proofs.quiet.is_quiet.Given as goal

abbrev pub invariant-loop-number : goal.invariant-loop-number
invariant-loop-number g l = AllGone g.D.Validates.verdict l.device.plan (past l.device.steps) (past (take l.number l.steps))
