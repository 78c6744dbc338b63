use Rattle.std.proofs.Common.{◌≡◌, ◌+◌, ◌≤◌, length, vec_capacity}
use Rattle.ctrl_handlers.proofs.FinishLemmas.{with_each}
use Rattle.ctrl_handlers.proofs.outline.cluster_each.Given as goal

-- each control so far is in a cluster, and there is room for the others
abbrev pub invariant-loop-control : goal.invariant-loop-control
invariant-loop-control l = record {
  so_far : l.clusters.items ≡ with_each l.initial.clusters.items l.control;
  room : length l.clusters.items + l.count ≤ vec_capacity l.clusters + l.control;
}
