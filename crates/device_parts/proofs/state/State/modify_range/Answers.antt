use Rattle.std.proofs.Common.{refl}
use Rattle.device_parts.proofs.MakesLemmas.{makes_range}
use Rattle.device_parts.proofs.state.State.modify_range.Goals as goal

-- it has this range now, and its value is settled by it
pub returns-clause-makes : goal.returns-clause-makes
returns-clause-makes g c = rw (← c.self.view_is)
    (λ number low high apart default_value is.
    makes_range g.D.Validates.verdict c.args.plan.now number c.args.control c.args.changed low high apart default_value _ _ is refl c.change_range.ensures.controls refl
    (λ e older same now_is. c.change_range.ensures.events g.D.Validates.verdict e older low high apart default_value same is now_is))
