use Rattle.std.proofs.Common.{arith, sym}
use Rattle.std.proofs.lemmas.Grind.{common_steps}
use Rattle.script_lines.proofs.Lists.{not_two}
use Rattle.script_lines.proofs.parse.handle_and_control.Goals as goal

-- another count of operands
pub returns-in_default : goal.returns-in_default
returns-in_default c = sym (not_two c.args.known.now c.args.operands.now (λ two. grind (arith, common_steps)))

pub returns-in_default-3 : goal.returns-in_default-3
returns-in_default-3 c = sym (not_two c.args.known.now c.args.operands.now (λ two. grind (arith, common_steps)))
