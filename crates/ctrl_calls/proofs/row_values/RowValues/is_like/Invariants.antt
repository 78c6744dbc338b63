use Rattle.std.proofs.Common.{◌≡◌, take}
use Rattle.ctrl_calls.proofs.row_values.RowValues.is_like.Given as goal

-- the values so far are the same
abbrev pub invariant-loop-place : goal.invariant-loop-place
invariant-loop-place l = take l.place l.self ≡ take l.place l.values
