use Rattle.std.proofs.Common.{◌<◌, ◌^◌, arith, sym}
use Rattle.std.proofs.lemmas.Grind.{common_steps}
use Rattle.script_lines.proofs.Digits.{numeral_below}
use Rattle.script_lines.proofs.lexeme.hexadecimal_u32.Goals as goal

pub returns : goal.returns
returns c =
    let below : c.in_ok-numeral.field-0 < 16 ^ 8 = numeral_below 16 8 _ c.in_ok-digits.digits.now (omega arith) (sym c.in_ok-numeral.ensures) in
    grind (arith, common_steps)
