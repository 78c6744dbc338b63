use Rattle.ctrl_handlers.proofs.ClusterLemmas.{is_plan_add, may_cluster}
use Rattle.ctrl_handlers.proofs.outline.Outline.add_cluster.Goals as goal

-- one more cluster, of controls that are in none
pub invariant_of-self-2 : goal.invariant_of-self-2
invariant_of-self-2 c =
    rw (c.in_ok-push.ensures.items, c.new.ensures)
    (is_plan_add _ c.args.members.now c.args.manual c.args.calls c.self.invariant (may_cluster _ c.args.members.now c.args.manual (rw (← c.self.view_is) at c.requires)))
