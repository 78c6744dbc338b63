use Rattle.std.proofs.Common.{length, rules, sym}
use Rattle.ctl_session.specs.Lists.{has_fault, read_at}
use Rattle.ctl_session.proofs.PlaceLemmas.{found_at, none_more}
use Rattle.ctl_session.proofs.lists.first_with.Goals as goal

-- src/lists.rt
pub returns-then-has_fault : goal.returns-then-has_fault
returns-then-has_fault c = record {
  place = c.loop-place-test.true;
  first = sym (found_at (λ place. has_fault c.args.fault (read_at c.args.forms.now c.args.arg.now place)) c.loop-place.place (length c.args.forms.now) c.loop-place-test.true
      c.loop-place.invariant (search (rules, c.has_fault.ensures, c.read_at.ensures, c.if-has_fault.true)));
}

-- src/lists.rt
pub loop-place-preserved : goal.loop-place-preserved
loop-place-preserved c =
    none_more (λ place. has_fault c.args.fault (read_at c.args.forms.now c.args.arg.now place)) c.loop-place.place
    c.loop-place.invariant (search (rules, c.has_fault.ensures, c.read_at.ensures, c.if-has_fault.false))
