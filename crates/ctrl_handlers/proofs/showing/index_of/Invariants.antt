use Rattle.std.proofs.Common.{◌≡◌, ◌≤◌, length, map, take, vec_capacity}
use Rattle.ctrl_handlers.proofs.IndexLemmas.{entry}
use Rattle.ctrl_handlers.proofs.showing.index_of.Given as goal

-- the entries so far
abbrev pub invariant-loop-number : goal.invariant-loop-number
invariant-loop-number l = record {
  entries : l.entries.items ≡ map (entry l.controls) (take l.number-index l.numbers);
  room : length l.numbers ≤ vec_capacity l.entries;
}
