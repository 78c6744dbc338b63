use Rattle.std.proofs.Common.{length, refl, rules}
use Rattle.ctrl_events.specs.Events.{events_of}
use Rattle.ctrl_raises.proofs.RaiseLemmas.{raised_first, raised_next, raised_nowhere, still_numbered}
use Rattle.ctrl_raises.proofs.raising.raise_between.Goals as goal

-- nobody hears
pub returns-then-is_empty : goal.returns-then-is_empty
returns-then-is_empty g c = λ j. raised_nowhere _ _ _ j (length c.args.change.now.before.plan.now.controls) c.args.events.now (c.if-is_empty.ensures.0 refl)

pub loop-control-init : goal.loop-control-init
loop-control-init g c = λ j. raised_first _ _ _ j (events_of c.args.events.now j)

pub raise_one-requires-clause-numbers : goal.raise_one-requires-clause-numbers
raise_one-requires-clause-numbers g c =
    λ j. still_numbered _ _ _ j c.loop-control.control (length c.args.change.now.before.plan.now.controls) 4294967295 (events_of c.args.events.now j) (events_of c.loop-control.events j) (c.loop-control.invariant j) (search rules) (c.requires.numbers j)

-- one more control is raised
pub loop-control-preserved : goal.loop-control-preserved
loop-control-preserved g c =
    λ j. raised_next _ _ _ j c.loop-control.control (events_of c.args.events.now j) (events_of c.loop-control.events j) (events_of c.raise_one.new.events j) (c.loop-control.invariant j) (c.raise_one.ensures j)
