use Rattle.ctrl_handlers.proofs.PlanLemmas.{is_plan_more}
use Rattle.ctrl_handlers.proofs.outline.Outline.add_handler.Goals as goal

-- one more handler, of nothing
pub invariant_of-self-2 : goal.invariant_of-self-2
invariant_of-self-2 c = rw (c.in_ok-push.ensures.items, c.new.ensures) (is_plan_more _ c.self.invariant (rw (← c.self.view_is) at c.requires))
