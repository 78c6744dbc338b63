use Rattle.std.proofs.Common.{◌≡◌, ◌≤◌, ◌-◌, ℕ, None, []}
use Rattle.std.specs.List.{range_with_len}
use Rattle.ctrl_clusters.specs.Moments.{parts}
use Rattle.ctrl_events.specs.Events.{events_of}
use Rattle.ctrl_raises.specs.Raises.{before_range, changed_between, payload_at, raised_all}
use Rattle.ctrl_raises.proofs.range_raising.raise_range.Given as goal

-- the controls below the next were raised
abbrev pub invariant-loop-next : goal.invariant-loop-next
invariant-loop-next g l = record {
  ends : l.next ≤ l.end;
  raised : (j : ℕ) → events_of l.events j
      ≡ raised_all (changed_between l.after.plan.now (before_range (parts l.after) l.control l.old l.old_value) (parts l.after) []) (payload_at l.after.plan.now (parts l.after)) (λ c. None) j (range_with_len 0 l.next) (events_of l.initial.events j);
}

abbrev pub decreases-loop-next : goal.decreases-loop-next
decreases-loop-next g l = l.end - l.next
