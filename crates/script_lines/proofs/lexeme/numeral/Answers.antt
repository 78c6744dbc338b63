use Rattle.std.proofs.Common.{◌≡◌, ◌<◌, take, arith, get_or}
use Rattle.std.specs.Char.{digit_value}
use Rattle.std.proofs.lemmas.Int.Digits.{digits_more, digits_value_more}
use Rattle.script_lines.proofs.Digits.{all_digits, list_all-digits, fits_more}
use Rattle.script_lines.proofs.lexeme.numeral.Goals as goal

pub overflow_mul-number : goal.overflow_mul-number
overflow_mul-number c =
    let digits = all_digits c.args.radix (take c.loop-byte.byte-index c.args.word.now) c.loop-byte.invariant.0 in
    let whole = fits_more c.args.radix c.args.most c.loop-byte.byte-index 0 c.loop-byte.number c.args.word.now
    c.requires.low c.requires.fits (omega arith) (omega arith) digits c.loop-byte.invariant.1 (omega arith) in
    rw c.from-in-loop-byte.ensures (omega arith)

pub overflow_add-number : goal.overflow_add-number
overflow_add-number c =
    let digits = all_digits c.args.radix (take c.loop-byte.byte-index c.args.word.now) c.loop-byte.invariant.0 in
    let small : c.from-in-loop-byte-2.result < c.args.radix = omega (arith, c.in_ok-digit.ensures.value.0, c.in_ok-digit.ensures.value.1) in
    let whole = fits_more c.args.radix c.args.most c.loop-byte.byte-index c.from-in-loop-byte-2.result c.loop-byte.number c.args.word.now
    c.requires.low c.requires.fits (omega arith) (omega arith) digits c.loop-byte.invariant.1 small in
    rw c.from-in-loop-byte.ensures (omega arith)

pub loop-byte-preserved : goal.loop-byte-preserved
loop-byte-preserved c =
    let i = c.loop-byte.byte-index in
    let digits = all_digits c.args.radix (take c.loop-byte.byte-index c.args.word.now) c.loop-byte.invariant.0 in
    let value = c.in_ok-digit.ensures.value in
    let small : digit_value (get_or c.args.word.now c.loop-byte.byte-index 0) < c.args.radix = rw c.from.ensures at value.0 in
    let more = digits_more c.args.radix c.args.word.now c.loop-byte.byte-index (omega arith) digits small in
    let next = digits_value_more c.args.radix c.args.word.now c.loop-byte.byte-index (omega arith) in
    let digit : c.from-in-loop-byte-2.result ≡ digit_value (get_or c.args.word.now c.loop-byte.byte-index 0) = cc (value.1, c.from.ensures) in
    (list_all-digits c.args.radix _ more, rw (c.from-in-loop-byte.ensures, c.loop-byte.invariant.1, digit, next))
