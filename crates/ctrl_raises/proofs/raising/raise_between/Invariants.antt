use Rattle.std.proofs.Common.{◌≡◌, ℕ}
use Rattle.std.specs.List.{range_with_len}
use Rattle.std.specs.Option.{option_map}
use Rattle.ctrl_clusters.specs.Moments.{parts, parts_after}
use Rattle.ctrl_events.specs.Events.{events_of}
use Rattle.ctrl_raises.specs.Raises.{changed_between, needing_feedback, payload_at, raised_all}
use Rattle.ctrl_raises.proofs.raising.raise_between.Given as goal

-- the controls so far were raised
abbrev pub invariant-loop-control : goal.invariant-loop-control
invariant-loop-control g l =
    (j : ℕ) → events_of l.events j ≡ raised_all (changed_between l.change.before.plan.now (parts l.change.before) (parts_after l.change) l.pairs) (payload_at l.change.before.plan.now (parts_after l.change))
    (λ c. needing_feedback (option_map (λ fh. fh.0) l.from) l.pairs (changed_between l.change.before.plan.now (parts l.change.before) (parts_after l.change) l.pairs c) c) j (range_with_len 0 l.control) (events_of l.initial.events j)
