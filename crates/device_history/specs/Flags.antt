-- The present flags of a control (Linux userspace API, "Control Flags").
use Rattle.std.specs.Prelude.{ℕ}
use Rattle.ctrl_types.specs.declared.flags.Flags.{Flags}
use Rattle.ctrl_calls.specs.Meanings.{Verdicts}
use Rattle.ctrl_handlers.specs.Plan.{PlanData}
use Rattle.ctrl_clusters.specs.PresentFlags.{flags_under}
use Rattle.device_history.specs.Steps.{Past}
use Rattle.device_history.specs.Grabs.{grabbed}
use Rattle.device_history.specs.Values.{now}

-- the flags of a control after a history: those that the present values and the grabs make
abbrev pub flags_now : Verdicts → PlanData → Past → ℕ → Flags
flags_now verdicts plan past c = flags_under plan (now verdicts plan past) (grabbed plan past) c
