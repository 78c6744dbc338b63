-- What refuses an ask, and the fault that it makes of a list's answer (Linux userspace API, "struct v4l2_ext_controls", `error_idx`; which index a refusal has is
-- of this project).
use Rattle.std.specs.Prelude.{ℕ, None, Some, unwrap_or}
use Rattle.ctrl_types.specs.Checks.{errno_of}
use Rattle.ctrl_types.specs.declared.check.Check.{Check}
use Rattle.ctrl_types.specs.declared.check.Check.TheVariants.{MemoryRefused}
use Rattle.ctrl_types.specs.declared.errno.Fault.{Fault}
use Rattle.ctrl_types.specs.declared.refusal.Refusal.{Refusal}

-- a check that refuses an ask as a whole
abbrev pub whole : Check → Refusal
whole check = record { check = check; entry = None }

-- want of memory, which does so
abbrev pub memory_refusal : Refusal
memory_refusal = whole MemoryRefused

-- A refusal of a get or a set has the number of entries as its index.
abbrev pub fault_at_count : ℕ → Refusal → Fault
fault_at_count count refusal = record { errno = errno_of refusal.check; index = Some count }

-- A refusal of a try has the place of the entry where it stands; the number of entries where it stands at none.
abbrev pub fault_at_entry : ℕ → Refusal → Fault
fault_at_entry count refusal = record { errno = errno_of refusal.check; index = Some (unwrap_or refusal.entry count) }
