-- What subscriptions and takes are answered (Linux userspace API, "ioctl VIDIOC_SUBSCRIBE_EVENT, VIDIOC_UNSUBSCRIBE_EVENT", "ioctl
-- VIDIOC_DQEVENT"): each check in its order, and then that no further step is kept (`stepped`).
use Rattle.std.specs.Prelude.{ℕ, if◌then◌else◌, List, [], ◌∷◌, Option, None, Some, is_some, Result, Err}
use Rattle.std.specs.Option.{option_map}
use Rattle.std.specs.Result.{result_err}
use Rattle.ctrl_types.specs.declared.check.Check.{Check}
use Rattle.ctrl_types.specs.declared.check.Check.TheVariants.{HandleNotOpen}
use Rattle.ctrl_types.specs.declared.ids.CtrlId.{CtrlId}
use Rattle.ctrl_types.specs.declared.ids.FhId.{FhId}
use Rattle.ctrl_types.specs.declared.sub_flags.SubFlags.{SubFlags}
use Rattle.ctrl_events.specs.declared.event.Event.{Event}
use Rattle.ctrl_events.specs.declared.event.Waiting.{Waiting}
use Rattle.ctrl_events.specs.Events.{first_waiting}
use Rattle.ctrl_calls.specs.Meanings.{Verdicts}
use Rattle.ctrl_handlers.specs.Plan.{PlanData}
use Rattle.device_history.specs.declared.ask.Reply.TheVariants as replies
use Rattle.device_history.specs.declared.ask.Step.{Step}
use Rattle.device_history.specs.declared.ask.Step.TheVariants as steps
use Rattle.device_history.specs.Steps.{Past}
use Rattle.device_history.specs.Refusals.{Answer, stepped, stepped_with}
use Rattle.device_history.specs.Handles.{handler_of, shown, through}
use Rattle.device_history.specs.Queries.{control_shown}
use Rattle.device_history.specs.Events.{pending}

-- Why a file handle isn't subscribed to the events of a control: it isn't open; the id isn't shown to it.
abbrev pub subscribe_check : PlanData → Past → FhId → CtrlId → Option Check
subscribe_check plan past fh id = result_err (control_shown plan past fh id)

-- Subscribing: any control that is shown can be subscribed to, and a subscription that is there already is accepted.
abbrev pub subscribe_answer : PlanData → Past → FhId → CtrlId → Answer
subscribe_answer plan past fh id = stepped (subscribe_check plan past fh id) past replies.Done

-- the step of an accepted subscription
abbrev pub subscribe_step : PlanData → Past → FhId → CtrlId → SubFlags → Option Step
subscribe_step plan past fh id flags = option_map (λ c. steps.Subscribe fh c flags) (shown plan past fh id)

-- Ending a subscription: refused where the file handle isn't open, and then accepted whatever the id.
abbrev pub unsubscribe_answer : Past → FhId → Answer
unsubscribe_answer past fh = stepped (through past fh None) past replies.Done

-- The first event that waits for a file handle: there is none where it isn't open, or none waits.
abbrev pub first_event : Verdicts → PlanData → Past → FhId → Result Event Check
first_event verdicts plan past fh = if is_some (handler_of past fh) then first_waiting (pending verdicts plan past fh) else Err HandleNotOpen

-- Taking an event: this one.
abbrev pub take_answer : Verdicts → PlanData → Past → FhId → Answer
take_answer verdicts plan past fh = stepped_with (λ event. replies.Event event) (first_event verdicts plan past fh) past

-- the control of the first
abbrev pub first_control : List Waiting → Option ℕ
first_control [] = None
first_control (w ∷ ws) = Some w.control

-- the step of an accepted take
abbrev pub take_step : Verdicts → PlanData → Past → FhId → Option Step
take_step verdicts plan past fh = option_map (λ c. steps.Take fh c) (first_control (pending verdicts plan past fh))
