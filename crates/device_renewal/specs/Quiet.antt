-- When nobody would notice that a history begins anew (of this project).
use Rattle.std.specs.Prelude.{◌≡◌, ℕ, [], None}
use Rattle.history.specs.Past.{past}
use Rattle.ctrl_types.specs.declared.ids.FhId.{FhId}
use Rattle.ctrl_calls.specs.Meanings.{Verdicts}
use Rattle.ctrl_handlers.specs.Plan.{PlanData}
use Rattle.device_history.specs.declared.ask.Step.{Step}
use Rattle.device_history.specs.declared.ask.Step.TheVariants as steps
use Rattle.device_history.specs.Snapshots.{request, requests}
use Rattle.device_history.specs.Steps.{Past}
use Rattle.device_history.specs.Subscriptions.{subscribed}
use Rattle.device_state.specs.Device.{DeviceData}

-- No file handle is subscribed to a control, and no request is there.
pub record IsQuiet (verdicts : Verdicts) (device : DeviceData) : Type 0 where
  pub unheard : (fh : FhId) (c : ℕ) → subscribed (past device.steps) fh c ≡ None
  pub no_requests : requests verdicts device.plan (past device.steps) ≡ []

-- What a step made is there no longer: the subscription, or the request, whose id is the step's number. Any other step makes neither.
abbrev pub IsGone : Verdicts → PlanData → Past → ℕ → Step → Type 0
IsGone verdicts plan past number (steps.Subscribe fh c flags) = subscribed past fh c ≡ None
IsGone verdicts plan past number steps.Alloc = request verdicts plan past number ≡ None
IsGone verdicts plan past number _ = Unit {0}
