-- What is read of the events that wait, of the control that is shown under an id, and of the frame that is being made.
use Rattle.std.proofs.Common.{◌≡◌, ℕ, List, Result, Err, ap, inl}
use Rattle.ctrl_types.specs.declared.check.Check.{Check}
use Rattle.ctrl_types.specs.declared.ids.FhId.{FhId}
use Rattle.ctrl_events.specs.declared.event.Event.{Event}
use Rattle.ctrl_calls.specs.Meanings.{Verdicts}
use Rattle.ctrl_handlers.specs.Plan.{PlanData}
use Rattle.device_history.specs.declared.ask.Ask.TheVariants as asks
use Rattle.device_history.specs.declared.ask.Reply.TheVariants as replies
use Rattle.device_history.specs.Steps.{Past}
use Rattle.device_history.specs.Refusals.{refused, stepped_with}
use Rattle.device_history.specs.EventAnswers.{first_event}
use Rattle.device_history.specs.Answers.{MayAnswer}

-- a take is refused where there is none
pub take_refused : (verdicts : Verdicts) (plan : PlanData) (older : Past) (words : List ℕ) (fh : FhId) (check : Check) → Err check ≡ first_event verdicts plan older fh → MayAnswer verdicts plan older words (asks.Take fh) (refused check)
take_refused verdicts plan older words fh check is = inl (ap (λ (found : Result Event Check). stepped_with (λ event. replies.Event event) found older) is)
