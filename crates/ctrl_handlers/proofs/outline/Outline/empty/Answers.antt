use Rattle.ctrl_handlers.proofs.PlanLemmas.{is_plan_start}
use Rattle.ctrl_handlers.proofs.outline.Outline.empty.Goals as goal

-- a plan of nothing
pub invariant_of-result : goal.invariant_of-result
invariant_of-result c = rw (c.new.ensures.items, c.new-2.ensures.items, c.new-3.ensures.empty, c.new-4.ensures.items, c.new-5.ensures.items) is_plan_start
