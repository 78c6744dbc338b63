use Rattle.ctrl_handlers.proofs.ItemLemmas.{is_plan_item}
use Rattle.ctrl_handlers.proofs.outline.Outline.set_item.Goals as goal

-- one more item, where its control takes it
pub invariant_of-self-2 : goal.invariant_of-self-2
invariant_of-self-2 c =
    rw c.in_ok-insert.ensures.entries
    (is_plan_item _ c.args.control c.args.index c.args.item c.self.invariant (rw (← c.self.view_is) at c.requires.known) (rw (← c.self.view_is) at c.requires.takes))
