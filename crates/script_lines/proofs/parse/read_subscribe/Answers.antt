use Rattle.std.proofs.Common.{arith}
use Rattle.std.proofs.lemmas.Grind.{common_steps}
use Rattle.script_lines.proofs.Lists.{below_two}
use Rattle.script_lines.proofs.parse.read_subscribe.Goals as goal

-- fewer operands
pub returns-in_default : goal.returns-in_default
returns-in_default c = below_two c.args.known.now c.args.operands.now (grind (arith, common_steps))
