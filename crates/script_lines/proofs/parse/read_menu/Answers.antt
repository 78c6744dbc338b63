use Rattle.std.proofs.Common.{arith}
use Rattle.std.proofs.lemmas.Grind.{common_steps}
use Rattle.script_lines.proofs.Lists.{not_three}
use Rattle.script_lines.proofs.parse.read_menu.Goals as goal

-- another count of operands
pub returns-in_default : goal.returns-in_default
returns-in_default c = not_three c.args.known.now c.args.operands.now (λ three. grind (arith, common_steps))
