use Rattle.history.specs.Past.{past}
use Rattle.device_history.specs.Ranges.{ranges_now}
use Rattle.device_history.specs.Values.{now}
use Rattle.following_ranges.specs.Following.{IsOwn, due_for}
use Rattle.following_ranges.proofs.FollowLemmas.{all_added, few_added, found_added}
use Rattle.following_ranges.proofs.asking.find_due.Goals as goal

-- what is due of one more control
pub loop-control-preserved : goal.loop-control-preserved
loop-control-preserved g c =
    let old = c.loop-control.invariant in
    let device = c.args.device.now in
    record {
      due = found_added (due_for c.args.followers.now (ranges_now device.plan (past device.steps)) (now g.D.Validates.verdict device.plan (past device.steps))) c.loop-control.control c.due_for.result c.loop-control.due.items c.add_found.new.due.items
          c.due_for.ensures.due c.add_found.ensures.items old.due;
      few = few_added c.loop-control.control c.due_for.result c.loop-control.due.items c.add_found.new.due.items c.add_found.ensures.items old.few;
      own = all_added (IsOwn device.plan) c.due_for.result c.loop-control.due.items c.add_found.new.due.items c.add_found.ensures.items old.own c.due_for.ensures.own;
      room = rw c.add_found.ensures.room old.room;
    }
