use Rattle.std.proofs.Common.{refl}
use Rattle.ctrl_events.specs.Events.{events_of}
use Rattle.std.proofs.Common.{ℕ, List, sym, subst}
use Rattle.ctrl_events.specs.Events.{FileEvents}
use Rattle.ctrl_events.specs.Heard.{AreHeard}
use Rattle.ctrl_events.proofs.HeardLemmas.{none_heard}
use Rattle.ctrl_events.proofs.events.Events.new.Goals as goal

pub returns : goal.returns
unfolding events_of
returns c = λ j. rw c.new.ensures.empty refl

pub invariant_of-result : goal.invariant_of-result
invariant_of-result c = subst (λ (es : List (ℕ × FileEvents)). AreHeard c.new-2.result.items es) (sym c.new.ensures.empty) (none_heard c.new-2.result.items)
