use Rattle.std.proofs.Common.{◌<◌, ◌+◌, arith, length, refl}
use Rattle.ctrl_clusters.specs.Moments.{parts}
use Rattle.ctrl_events.specs.Events.{events_of}
use Rattle.ctrl_raises.proofs.RaiseLemmas.{raised_first, raised_next, raised_nowhere, still_numbered}
use Rattle.ctrl_raises.proofs.RangeLemmas.{raised_further}
use Rattle.ctrl_raises.proofs.range_raising.raise_range.Goals as goal

-- nobody hears
pub returns-then-is_empty : goal.returns-then-is_empty
returns-then-is_empty g c = λ j. raised_nowhere _ _ _ j (length c.args.after.now.plan.now.controls) c.args.events.now (c.if-is_empty.ensures.0 refl)

-- nothing is raised of the controls below the first member
pub loop-next-init : goal.loop-next-init
loop-next-init g c = record {
  ends = c.next_number-next.ensures.ends;
  raised = λ j.
      raised_further c.args.after.now.plan.now (parts c.args.after.now) c.args.control c.cluster_of.result c.args.old.now _ 0 c.next_number-next.result j (events_of c.args.events.now j) (events_of c.args.events.now j)
      c.args.after.now.planned.is_plan c.cluster_of.ensures.cluster c.next_number-next.ensures.starts
      (λ d no_less below. rw c.members-members.ensures.members at (c.next_number-next.ensures.first d no_less below)) (raised_first _ _ _ j (events_of c.args.events.now j));
}

pub raise_member-requires-clause-numbers : goal.raise_member-requires-clause-numbers
raise_member-requires-clause-numbers g c =
    let within : c.loop-next.next < length c.args.after.now.plan.now.controls = omega arith in
    λ j. still_numbered _ _ _ j c.loop-next.next (length c.args.after.now.plan.now.controls) 4294967295 (events_of c.args.events.now j) (events_of c.loop-next.events j) (c.loop-next.invariant.raised j) within (c.requires.numbers j)

-- one more member is raised, and nothing of the controls between it and the next
pub loop-next-preserved : goal.loop-next-preserved
loop-next-preserved g c = record {
  ends = c.next_number-next-in-loop-next.ensures.ends;
  raised = λ j.
      raised_further c.args.after.now.plan.now (parts c.args.after.now) c.args.control c.cluster_of.result c.args.old.now _ (c.loop-next.next + 1) c.next_number-next-in-loop-next.result j (events_of c.args.events.now j)
      (events_of c.raise_member.new.events j) c.args.after.now.planned.is_plan c.cluster_of.ensures.cluster c.next_number-next-in-loop-next.ensures.starts
      (λ d no_less below. rw c.members-members.ensures.members at (c.next_number-next-in-loop-next.ensures.first d no_less below))
      (raised_next _ _ _ j c.loop-next.next (events_of c.args.events.now j) (events_of c.loop-next.events j) (events_of c.raise_member.new.events j) (c.loop-next.invariant.raised j) (c.raise_member.ensures j));
}
