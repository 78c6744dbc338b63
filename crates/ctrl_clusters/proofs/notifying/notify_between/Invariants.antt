use Rattle.std.proofs.Common.{◌≡◌, ◌≤◌, ◌-◌}
use Rattle.ctrl_handlers.specs.Plan.{members}
use Rattle.ctrl_clusters.specs.Rows.{row_of}
use Rattle.ctrl_clusters.specs.Moments.{moved}
use Rattle.ctrl_clusters.proofs.NotifyLemmas.{AreNotifiedBelow, notified_below}
use Rattle.ctrl_clusters.proofs.notifying.notify_between.Given as goal

-- the clusters below the next of those that are looked at were notified
abbrev pub invariant-loop-next : goal.invariant-loop-next
invariant-loop-next g l = record {
  ends : l.next ≤ l.end;
  words : AreNotifiedBelow g.D.Notifies.told l.change.before.plan.now (moved l.change l.pairs) (λ k. row_of l.change.values.now (members l.change.before.plan.now k)) l.next l.initial.words.items l.words.items;
  work : l.work ≡ record l.initial.work { told = notified_below l.change.before.plan.now (moved l.change l.pairs) l.next };
}

abbrev pub decreases-loop-next : goal.decreases-loop-next
decreases-loop-next g l = l.end - l.next
