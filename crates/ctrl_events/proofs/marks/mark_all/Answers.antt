use Rattle.std.proofs.Common.{arith}
use Rattle.ctrl_events.proofs.MarkLemmas.{marked_all}
use Rattle.ctrl_events.proofs.marks.mark_all.Goals as goal

pub returns-clause-marked : goal.returns-clause-marked
returns-clause-marked c = λ d there within.
    marked_all c.args.controls.now c.loop-entry.heard.items c.args.place c.loop-entry.entry-index d (omega (arith, c.loop-entry-test.false)) (λ i before at. c.loop-entry.invariant.marked i d before at within) there
