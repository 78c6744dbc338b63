use Rattle.std.proofs.Common.{◌≡◌, ◌≤◌, length, take, drop}
use Rattle.script_replies.specs.Replies.{hexadecimal}
use Rattle.script_replies.proofs.Digits.{last_digits}
use Rattle.script_replies.proofs.hexadecimal.write_hexadecimal.Given as goal

-- the digits of what is left, put before those that stand there, are all of them
abbrev pub invariant-loop-at : goal.invariant-loop-at
invariant-loop-at l = (l.at ≤ 8) × (length l.room ≡ 8) × (last_digits l.at l.left (drop l.at l.room) ≡ hexadecimal l.number)
    × (take l.at l.room ≡ take l.at l.fn.room)

abbrev pub decreases-loop-at : goal.decreases-loop-at
decreases-loop-at l = l.at
