use Rattle.std.proofs.Common.{◌∙◌, sym}
use Rattle.ctrl_events.proofs.events.Events.is_like.Goals as goal

pub returns : goal.returns
returns c = (
  λ is. (c.waits_like.ensures.0 is, sym c.next_sequence.ensures ∙ c.if-next_sequence.false ∙ c.next_sequence-2.ensures),
  λ like. c.waits_like.ensures.1 like.0,
)
