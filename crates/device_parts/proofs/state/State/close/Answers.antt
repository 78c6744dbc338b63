use Rattle.std.proofs.Common.{refl}
use Rattle.device_parts.proofs.MakesLemmas.{makes_close}
use Rattle.device_parts.proofs.state.State.close.Goals as goal

-- it is open no longer, and nothing is kept of its events
pub returns-clause-makes : goal.returns-clause-makes
returns-clause-makes c = rw (← c.self.view_is) (λ number. makes_close number c.args.fh _ _ c.shift_remove.ensures.entries refl refl c.drop_fh.ensures)
