-- Which steps fit what is kept (of this project).
use Rattle.std.specs.Prelude.{ℕ, Bool, true, not, ◌&&◌, Option, Some, is_some}
use Rattle.req_book.specs.Requests.{is_number}
use Rattle.ctrl_calls.specs.Meanings.{Verdicts}
use Rattle.ctrl_types.specs.declared.ids.FhId.{FhId}
use Rattle.ctrl_handlers.specs.Plan.{PlanData, control}
use Rattle.device_history.specs.declared.ask.Step.{Step}
use Rattle.device_history.specs.declared.ask.Step.TheVariants as steps
use Rattle.device_history.specs.Steps.{Past}
use Rattle.device_history.specs.Handles.{shown}
use Rattle.device_history.specs.Events.{pending}
use Rattle.device_history.specs.EventAnswers.{first_control}
use Rattle.device_history.specs.Frames.{queue, running, first_of}
use Rattle.device_history.specs.StepChecks.{step_refusal}

-- there is none
abbrev pub lacks : {X : Type 0} → Option X → Bool
lacks o = not (is_some o)

-- a control is shown to a file handle under its id
abbrev pub shows_it : PlanData → Past → FhId → ℕ → Bool
shows_it plan past fh c = is_number (shown plan past fh (control plan c).id) c

-- What a step names is what is found: a begin and an end are of the request whose turn it is, the control of a subscription, or of its end, is shown to the
-- file handle, and an event that is taken is the first that waits.
abbrev pub names_found : Verdicts → PlanData → Past → Step → Bool
names_found verdicts plan past (steps.Begin r) = is_number (first_of (queue past)) r.0
names_found verdicts plan past (steps.Complete r) = is_number (running past) r.0
names_found verdicts plan past (steps.Subscribe fh c flags) = shows_it plan past fh c
names_found verdicts plan past (steps.Unsubscribe fh (Some c)) = shows_it plan past fh c
names_found verdicts plan past (steps.Take fh c) = is_number (first_control (pending verdicts plan past fh)) c
names_found verdicts plan past _ = true

-- Of the code: what a replay tests of a step that gives neither pairs nor a range, where a further step is kept: what it names is what is found, and no check refuses it.
-- That this is whether the step may follow is said at `Replay::fits`.
abbrev pub fits_parts : Verdicts → PlanData → Past → Step → Bool
fits_parts verdicts plan past step = names_found verdicts plan past step && lacks (step_refusal verdicts plan past step)
