use Rattle.std.proofs.Common.{◌≡◌, ◌-◌, length, refl, arith, sym, ◌∙◌}
use Rattle.std.proofs.lemmas.Grind.{common_steps}
use Rattle.script_lines.proofs.Digits.{numeral_none, numeral_push}
use Rattle.script_lines.proofs.lexeme.decimal_u64.Goals as goal

pub returns-in_err-numeral-in-len1-up : goal.returns-in_err-numeral-in-len1-up
returns-in_err-numeral-in-len1-up c =
    let len : length c.args.word.now ≡ 20 = grind (arith, common_steps) in
    let front : length c.args.word.now - 1 ≡ 19 = omega arith in
    let none = numeral_none 10 19 c.args.word.now (omega arith) len (rw front at (sym c.numeral.ensures ∙ c.in_err-numeral-in-len1-up.was)) in
    rw (none, c.from_residual-in_err-numeral-in-len1-up.ensures) refl

pub returns-in_err-checked_mul-in-len1-up : goal.returns-in_err-checked_mul-in-len1-up
returns-in_err-checked_mul-in-len1-up c =
    let len : length c.args.word.now ≡ 20 = grind (arith, common_steps) in
    let front : length c.args.word.now - 1 ≡ 19 = omega arith in
    let small = rw (c.from.ensures, front) at c.in_ok-digit-in-len1-up.ensures.value in
    let whole = numeral_push 10 19 c.in_ok-numeral-in-len1-up.field-0 c.args.word.now len (rw front at (sym c.numeral.ensures ∙ c.in_ok-numeral-in-len1-up.was)) small.0 in
    let large = c.in_err-checked_mul-in-len1-up.ensures in
    rw (whole, c.from_residual-in_err-checked_mul-in-len1-up.ensures) (grind (arith, common_steps))

pub returns-in_ok-checked_mul-in-len1-up : goal.returns-in_ok-checked_mul-in-len1-up
returns-in_ok-checked_mul-in-len1-up c =
    let len : length c.args.word.now ≡ 20 = grind (arith, common_steps) in
    let front : length c.args.word.now - 1 ≡ 19 = omega arith in
    let small = rw (c.from.ensures, front) at c.in_ok-digit-in-len1-up.ensures.value in
    let whole = numeral_push 10 19 c.in_ok-numeral-in-len1-up.field-0 c.args.word.now len (rw front at (sym c.numeral.ensures ∙ c.in_ok-numeral-in-len1-up.was)) small.0 in
    rw whole (grind (arith, common_steps))
