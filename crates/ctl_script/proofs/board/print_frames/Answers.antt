use Rattle.std.proofs.Common.{rules}
use Rattle.ctl_script.proofs.board.print_frames.Goals as goal

pub loop-place-init : goal.loop-place-init
loop-place-init g c = search rules
