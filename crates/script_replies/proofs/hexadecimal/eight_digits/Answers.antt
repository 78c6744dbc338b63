use Rattle.script_replies.proofs.Digits.{filled}
use Rattle.script_replies.proofs.hexadecimal.eight_digits.Goals as goal

pub returns : goal.returns
returns c =
    let w = c.write_hexadecimal in
    filled _ _ w.result w.ensures.within w.array_long w.ensures.written w.ensures.before
