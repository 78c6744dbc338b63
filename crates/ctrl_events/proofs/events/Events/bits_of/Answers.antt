use Rattle.std.proofs.Common.{◌∙◌, get_or, ap, subst}
use Rattle.ctrl_events.specs.Events.{EventsData}
use Rattle.ctrl_events.specs.Heard.{HaveBits}
use Rattle.ctrl_events.proofs.HeardLemmas.{heard_bits}
use Rattle.ctrl_events.proofs.events.Events.bits_of.Goals as goal

pub returns-clause-bits : goal.returns-clause-bits
returns-clause-bits c = subst (λ (d : EventsData). HaveBits c.heard_by.result c.args.control d.files) c.self.view_is (
    heard_bits c.self.inside.files.entries c.self.inside.heard.items c.args.control c.heard_by.result (c.heard_by.ensures ∙ ap (λ hs. get_or hs c.args.control 0) c.as_slice.ensures.value) c.self.invariant
    )
