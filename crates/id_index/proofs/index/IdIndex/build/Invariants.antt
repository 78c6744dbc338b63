use Rattle.std.proofs.Common.{◌≡◌, ℕ, take}
use Rattle.id_index.specs.Entries.{number_of, IsRising}
use Rattle.id_index.proofs.index.IdIndex.build.Given as goal

-- the entries so far have their numbers
abbrev pub invariant-loop-id : goal.invariant-loop-id
invariant-loop-id l = record {
  rising : IsRising l.rising.items;
  so_far : (id : ℕ) → number_of l.rising.items id ≡ number_of (take l.id-index l.entries) id;
}
