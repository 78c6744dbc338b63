-- The asks whose steps leave file handles, grabs, ranges and values (of this project).
use Rattle.std.specs.Prelude.{◌≡◌, ◌≤◌, ℕ, true, List, [], length, Option, None, Some, IsOk}
use Rattle.std.specs.Option.{option_map}
use Rattle.ctrl_types.specs.Refusals.{whole}
use Rattle.ctrl_types.specs.declared.check.Check.{Check}
use Rattle.ctrl_types.specs.declared.check.Check.TheVariants.{MemoryRefused}
use Rattle.ctrl_calls.specs.Meanings.{Verdicts}
use Rattle.ctrl_handlers.specs.Plan.{PlanData}
use Rattle.device_history.specs.declared.ask.Ask.{Ask}
use Rattle.device_history.specs.declared.ask.Reply.{Reply}
use Rattle.device_history.specs.declared.ask.Step.{Step}
use Rattle.device_history.specs.Steps.{Past}
use Rattle.device_history.specs.Snapshots.{frames}
use Rattle.device_history.specs.Forecasts.{queued_frames}
use Rattle.device_parts.specs.QueuedFrames.{asks_at_most}
use Rattle.device_history.specs.AskChecks.{index_of, refusal_of}
use Rattle.device_history.specs.Refusals.{Answer, refused, step_check, stepped}
use Rattle.device_history.specs.Answers.{answer_of, step_of, no_memory, MayLackMemory}
use Rattle.device_parts.specs.Leaving.{NamesKnown, leaves_controls}
use Rattle.device_state.specs.Device.{may_ask, must_ask}

-- An ask that adds a step which leaves file handles, grabs, ranges and values: its own check refuses it, then that no further step is kept, and else it is answered
-- the reply; want of memory may take the place of the reply.
pub record AddsStep (verdicts : Verdicts) (plan : PlanData) (past : Past) (words : List ℕ) (ask : Ask) (check : Option Check) (step : Step) (reply : Reply) : Type 0 where
  pub leaves : leaves_controls step ≡ true
  pub answers : answer_of verdicts plan past words ask ≡ stepped check past reply
  pub answers_alone : answer_of verdicts plan past [] ask ≡ stepped check past reply
  pub adds : check ≡ None → step_of verdicts plan past ask ≡ Some step
  pub lacks : IsOk (stepped check past reply) → MayLackMemory verdicts plan past ask
  pub plain : no_memory ask ≡ refused MemoryRefused
  -- it is no list, so that a refusal has no index
  pub alone : index_of ask None ≡ None
  pub refuses : refusal_of verdicts plan past ask ≡ option_map whole (step_check past check)
  pub asks_nobody : must_ask plan past ask ≡ 0
  -- whatever the answer, validators may be asked as often as for the step
  pub most : (answer : Answer) → asks_at_most plan (frames verdicts plan past) step (queued_frames plan past) ≤ may_ask verdicts plan past ask answer
  pub known : check ≡ None → NamesKnown (length plan.controls) step
