-- When two devices stand alike (of this project).
use Rattle.std.specs.Prelude.{◌≡◌, ◌<◌, ℕ, length}
use Rattle.history.specs.Past.{past}
use Rattle.ctrl_calls.specs.Meanings.{Verdicts}
use Rattle.ctrl_handlers.specs.Plan.{control_in}
use Rattle.ctrl_clusters.specs.Rows.{is_grabbed}
use Rattle.device_history.specs.Flags.{flags_now}
use Rattle.device_history.specs.Grabs.{grabbed}
use Rattle.device_history.specs.Ranges.{ranges_now}
use Rattle.device_history.specs.Values.{now}
use Rattle.device_state.specs.Device.{DeviceData}

-- a control has the same range and flags in both, and is grabbed in both or in none
pub record IsAlike (verdicts : Verdicts) (one other : DeviceData) (c : ℕ) : Type 0 where
  pub range : control_in (ranges_now one.plan (past one.steps)) c ≡ control_in (ranges_now other.plan (past other.steps)) c
  pub flags : flags_now verdicts one.plan (past one.steps) c ≡ flags_now verdicts other.plan (past other.steps) c
  pub grab : is_grabbed (grabbed one.plan (past one.steps)) c ≡ is_grabbed (grabbed other.plan (past other.steps)) c

-- Two devices stand alike: they have as many controls, the same present values, and each control is alike in both.
pub record StandAlike (verdicts : Verdicts) (one other : DeviceData) : Type 0 where
  pub controls : length one.plan.controls ≡ length other.plan.controls
  pub values : now verdicts one.plan (past one.steps) ≡ now verdicts other.plan (past other.steps)
  pub each : (c : ℕ) → c < length one.plan.controls → IsAlike verdicts one other c
