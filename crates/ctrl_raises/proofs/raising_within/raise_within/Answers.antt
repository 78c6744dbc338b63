use Rattle.std.proofs.Common.{◌<◌, ◌+◌, arith, length, refl}
use Rattle.ctrl_clusters.specs.Moments.{parts, parts_after}
use Rattle.ctrl_events.specs.Events.{events_of}
use Rattle.ctrl_raises.proofs.RaiseLemmas.{raised_first, raised_next, raised_nowhere, still_numbered}
use Rattle.ctrl_raises.proofs.WithinLemmas.{raised_beyond}
use Rattle.ctrl_raises.proofs.raising_within.raise_within.Goals as goal

-- nobody hears
pub returns-then-is_empty : goal.returns-then-is_empty
returns-then-is_empty g c = λ j. raised_nowhere _ _ _ j (length c.args.change.now.before.plan.now.controls) c.args.events.now (c.if-is_empty.ensures.0 refl)

-- nothing is raised of the controls below the first member
pub loop-next-init : goal.loop-next-init
loop-next-init g c = record {
  ends = c.next_of_clusters-next.ensures.ends;
  raised = λ j.
      raised_beyond c.args.change.now.before.plan.now c.args.clusters.now (parts c.args.change.now.before) (parts_after c.args.change.now) c.args.pairs.now _ 0 c.next_of_clusters-next.result j (events_of c.args.events.now j)
      (events_of c.args.events.now j) c.args.change.now.before.planned c.requires.within c.next_of_clusters-next.ensures.starts (omega (arith, c.next_of_clusters-next.ensures.ends)) c.next_of_clusters-next.ensures.first
      (raised_first _ _ _ j (events_of c.args.events.now j));
}

pub raise_one-requires-clause-numbers : goal.raise_one-requires-clause-numbers
raise_one-requires-clause-numbers g c =
    let within : c.loop-next.next < length c.args.change.now.before.plan.now.controls = omega arith in
    λ j. still_numbered _ _ _ j c.loop-next.next (length c.args.change.now.before.plan.now.controls) 4294967295 (events_of c.args.events.now j) (events_of c.loop-next.events j) (c.loop-next.invariant.raised j) within (c.requires.numbers j)

-- one more member is raised, and nothing of the controls between it and the next
pub loop-next-preserved : goal.loop-next-preserved
loop-next-preserved g c = record {
  ends = c.next_of_clusters-next-in-loop-next.ensures.ends;
  raised = λ j.
      raised_beyond c.args.change.now.before.plan.now c.args.clusters.now (parts c.args.change.now.before) (parts_after c.args.change.now) c.args.pairs.now _ (c.loop-next.next + 1) c.next_of_clusters-next-in-loop-next.result j
      (events_of c.args.events.now j) (events_of c.raise_one.new.events j) c.args.change.now.before.planned c.requires.within c.next_of_clusters-next-in-loop-next.ensures.starts (omega (arith, c.next_of_clusters-next-in-loop-next.ensures.ends)) c.next_of_clusters-next-in-loop-next.ensures.first
      (raised_next _ _ _ j c.loop-next.next (events_of c.args.events.now j) (events_of c.loop-next.events j) (events_of c.raise_one.new.events j) (c.loop-next.invariant.raised j) (c.raise_one.ensures j));
}
