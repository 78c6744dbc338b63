use Rattle.std.proofs.Common.{arith, sym, subst}
use Rattle.ctrl_events.specs.Events.{EventsData}
use Rattle.ctrl_events.specs.Heard.{HaveBits}
use Rattle.ctrl_events.proofs.HeardLemmas.{kept_heard}
use Rattle.ctrl_events.proofs.events.Events.keep_heard.Goals as goal

pub invariant_of-self : goal.invariant_of-self
invariant_of-self c = kept_heard c.self.inside.files.entries c.self.inside.heard.items c.args.control c.args.bits (omega arith) c.self.invariant (
    subst (λ (d : EventsData). HaveBits c.args.bits c.args.control d.files) (sym c.self.view_is) c.requires
    )
