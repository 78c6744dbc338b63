use Rattle.std.proofs.Common.{◌≡◌, ◌+◌, ◌-◌, ◌/◌, ◌∷◌, ◌∙◌, drop, take, sym, ap, refl, arith, set, length-set, take-take}
use Rattle.std.proofs.lemmas.List.{drop-set, drop_all, take-set}
use Rattle.script_replies.proofs.Digits.{last_digit, last_digits, further_digits, eight_are_enough}
use Rattle.script_replies.proofs.hexadecimal.write_hexadecimal.Goals as goal

pub loop-at-init : goal.loop-at-init
loop-at-init c = (
  omega arith,
  c.told-room,
  ap (last_digits 8 c.args.number) (drop_all 8 c.args.room.now (omega (arith, c.told-room))) ∙ eight_are_enough c.args.number c.ranges.number.fits,
  refl,
)

pub loop-at-preserved : goal.loop-at-preserved
loop-at-preserved c =
    let l = c.loop-at in
    let e : l.at - 1 + 1 ≡ l.at = omega arith in
    let put : drop (l.at - 1) (set l.room (l.at - 1) c.digit.result) ≡ last_digit l.left ∷ drop l.at l.room = rw (drop-set l.room (l.at - 1) c.digit.result (omega arith), e, c.digit.ensures) in (
      omega arith,
      length-set l.room (l.at - 1) c.digit.result ∙ l.invariant.1,
      ap (last_digits (l.at - 1) (l.left / 16)) put ∙ sym (further_digits l.at l.left (drop l.at l.room) c.loop-at-test.true c.if-left-eq0.false) ∙ l.invariant.2,
      take-set l.room (l.at - 1) c.digit.result ∙ sym (take-take (l.at - 1) l.at l.room (omega arith)) ∙ ap (take (l.at - 1)) l.invariant.3 ∙ take-take (l.at - 1) l.at c.args.room.now (omega arith),
    )
