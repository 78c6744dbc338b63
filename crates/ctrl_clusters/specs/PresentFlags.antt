-- The flags of a control under values and grabs (Linux userspace API, "Control Flags").
use Rattle.std.specs.Prelude.{ℕ, Bool, true, false}
use Rattle.ctrl_types.specs.Flags.{union}
use Rattle.ctrl_types.specs.declared.flags.Flags.{Flags}
use Rattle.ctrl_types.specs.declared.flags.TheConstants.Flags.{GRABBED, INACTIVE}
use Rattle.ctrl_handlers.specs.Plan.{PlanData, plan_flags}
use Rattle.ctrl_clusters.specs.Rows.{Values, Grabs, is_grabbed}
use Rattle.ctrl_clusters.specs.AutoClusters.{inactive}

-- flags, with one more where it holds
abbrev pub with_flag_if : Bool → Flags → Flags → Flags
with_flag_if true flag given = union given flag
with_flag_if false flag given = given

-- The flags of a control under values and grabs: those of the plan; GRABBED where it is grabbed; INACTIVE where its cluster makes it so.
abbrev pub flags_under : PlanData → Values → Grabs → ℕ → Flags
flags_under plan values grabs c = with_flag_if (inactive plan values c) INACTIVE (with_flag_if (is_grabbed grabs c) GRABBED (plan_flags plan c))
