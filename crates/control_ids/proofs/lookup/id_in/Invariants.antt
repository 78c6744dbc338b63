use Rattle.std.proofs.Common.{◌≡◌, drop}
use Rattle.control_ids.specs.Ids.{id_among}
use Rattle.control_ids.proofs.lookup.id_in.Given as goal

-- the name's id is that of a row that is left, or of none
abbrev pub invariant-loop-place : goal.invariant-loop-place
invariant-loop-place l = id_among l.name (drop l.place l.text) ≡ id_among l.name l.text
