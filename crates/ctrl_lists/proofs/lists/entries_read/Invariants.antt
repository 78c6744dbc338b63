use Rattle.std.proofs.Common.{◌≡◌, ◌≤◌, take, map, length, vec_capacity}
use Rattle.ctrl_lists.specs.Answers.{entry_read}
use Rattle.ctrl_lists.proofs.lists.entries_read.Given as goal

-- the entries so far
abbrev pub invariant-loop-pair : goal.invariant-loop-pair
invariant-loop-pair g l = record {
  so_far : l.answers.items ≡ map (entry_read l.view.plan l.view.parts) (take l.pair-index l.pairs);
  room : length l.pairs ≤ vec_capacity l.answers;
}
