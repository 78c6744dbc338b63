use Rattle.std.proofs.Common.{◌≡◌, ◌≤◌, ◌-◌, ℕ}
use Rattle.std.specs.List.{range_with_len}
use Rattle.std.specs.Option.{option_map}
use Rattle.ctrl_clusters.specs.Moments.{parts, parts_after}
use Rattle.ctrl_events.specs.Events.{events_of}
use Rattle.ctrl_raises.specs.Raises.{changed_between, needing_feedback, payload_at, raised_all}
use Rattle.ctrl_raises.proofs.raising_within.raise_within.Given as goal

-- the controls below the next were raised
abbrev pub invariant-loop-next : goal.invariant-loop-next
invariant-loop-next g l = record {
  ends : l.next ≤ l.end;
  raised : (j : ℕ) → events_of l.events j ≡ raised_all (changed_between l.change.before.plan.now (parts l.change.before) (parts_after l.change) l.pairs) (payload_at l.change.before.plan.now (parts_after l.change))
      (λ c. needing_feedback (option_map (λ fh. fh.0) l.from) l.pairs (changed_between l.change.before.plan.now (parts l.change.before) (parts_after l.change) l.pairs c) c) j (range_with_len 0 l.next) (events_of l.initial.events j);
}

abbrev pub decreases-loop-next : goal.decreases-loop-next
decreases-loop-next g l = l.end - l.next
