-- written out so that a wrong body is refused soon (docs/GATE.md)
use Rattle.std.proofs.Common.{rules}
use Rattle.device_file.proofs.ranges.started.Goals as goal

pub returns-then-follows_any : goal.returns-then-follows_any
returns-then-follows_any c = search rules
