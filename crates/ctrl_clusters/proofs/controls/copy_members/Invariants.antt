use Rattle.std.proofs.Common.{◌≡◌, ℕ, true, false, nat_eq, length, take}
use Rattle.std.specs.List.{list_any}
use Rattle.ctrl_clusters.specs.Rows.{value_at}
use Rattle.ctrl_clusters.proofs.controls.copy_members.Given as goal

-- the members so far have the values that they have there, and every other control its own
abbrev pub invariant-loop-member : goal.invariant-loop-member
invariant-loop-member l = record {
  long : length l.copy.items ≡ length l.values;
  given : (c : ℕ) → list_any (nat_eq c) (take l.member-index l.members) ≡ true → value_at l.copy.items c ≡ value_at l.values c;
  others : (c : ℕ) → list_any (nat_eq c) (take l.member-index l.members) ≡ false → value_at l.copy.items c ≡ value_at l.initial.copy.items c;
}
