-- How a device goes on while a script runs.
use Rattle.std.proofs.Common.{ℕ, [], ◌++◌, Option, None, Some, IfSome, refl, sym, subst, append_assoc, ◌∙◌, arith}
use Rattle.std.proofs.lemmas.Grind.{common_steps}
use Rattle.ctrl_calls.specs.Meanings.{Verdicts}
use Rattle.device_state.specs.Device.{DeviceData, Handles}
use Rattle.device_history.specs.Refusals.{Answer}
use Rattle.device_history.specs.declared.ask.Ask.{Ask}
use Rattle.ctrl_handlers.specs.Plan.{PlanData}
use Rattle.device_history.specs.Steps.{History}
use Rattle.history_audit.specs.Replay.{IsProgressOf, ProgressData}
use Rattle.history_audit.proofs.MadeLemmas.{replay_longer}
use Rattle.ctl_script.specs.Run.{GrowsFrom}

pub still : (d : DeviceData) → GrowsFrom d d
still d = record { plan = refl; steps = ([], grind (arith, common_steps)) }

pub onward : (a b c : DeviceData) → GrowsFrom a b → GrowsFrom b c → GrowsFrom a c
onward a b c first second = record {
  plan = second.plan ∙ first.plan;
  steps = (first.steps.0 ++ second.steps.0, rw (second.steps.1, first.steps.1, append_assoc) refl);
}

-- an ask that is answered
pub handled : (verdicts : Verdicts) (old new : DeviceData) (seat : ℕ) (ask : Ask) (answer : Answer) → Handles verdicts old new seat ask answer → GrowsFrom old new
handled verdicts old new seat ask answer h = record { plan = h.plan; steps = (_, h.steps) }

-- what was replayed of a device's steps was replayed of those that it has then
pub still_replayed : (verdicts : Verdicts) (old new : DeviceData) (made : Option ProgressData) → GrowsFrom old new → IfSome made (IsProgressOf verdicts old.plan old.steps) → IfSome made (IsProgressOf verdicts new.plan new.steps)
still_replayed verdicts old new None goes is = tt
still_replayed verdicts old new (Some made) goes is =
    subst (λ (p : PlanData). IsProgressOf verdicts p new.steps made) (sym goes.plan)
    (subst (λ (s : History). IsProgressOf verdicts old.plan s made) (sym goes.steps.1) (replay_longer verdicts old.plan old.steps goes.steps.0 made is))
