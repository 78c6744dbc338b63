use Rattle.device_state.proofs.HandleLemmas.{handles_item}
use Rattle.device_state.proofs.device.Device.item.Goals as goal

-- telling an item adds no step
pub returns-clause-handles : goal.returns-clause-handles
returns-clause-handles g c = λ seat.
    rw (← c.self.view_is)
    (handles_item g.D.Validates.verdict _ _ seat c.args.fh c.args.id c.args.index _ c.new-self-inside.ensures c.menu_item.ensures.answers)
