use Rattle.std.proofs.Common.{◌≡◌, ℕ, ◌<◌, ◌≤◌, true, length, vec_capacity, slice_index}
use Rattle.ctrl_handlers.specs.Plan.{members, calls_of}
use Rattle.ctrl_clusters.specs.Rows.{row_of}
use Rattle.ctrl_clusters.specs.Notified.{MaySay}
use Rattle.ctrl_clusters.proofs.NotifyLemmas.{notified_below}
use Rattle.ctrl_clusters.proofs.notifying.first_words.Given as goal

-- the clusters so far have their words, and were told once
abbrev pub invariant-loop-cluster : goal.invariant-loop-cluster
invariant-loop-cluster g l = record {
  long : length l.words.items ≡ l.cluster;
  room : l.count ≤ vec_capacity l.words;
  work : l.work ≡ record l.initial.work { told = notified_below l.at.plan.now (λ k. true) l.cluster };
  allowed : (k : ℕ) → k < l.cluster → MaySay g.D.Notifies.told (calls_of l.at.plan.now k).notifier (row_of l.at.values.now (members l.at.plan.now k)) (slice_index l.words.items k);
}
