-- Headings one by one.
use Rattle.std.proofs.Common.{◌≡◌, ℕ, suc, ◌+◌, ◌*◌, refl, arith}
use Rattle.ctrl_settle.specs.Faults.{IsWellFormed}
use Rattle.ctrl_settle.proofs.WellFormed.{IsWellFormed-test}
use Rattle.ctrl_handlers.specs.Plan.{PlanData}
use Rattle.device_file.specs.Headings.{heading, with_headings_below, with_headings_of, with_lacking}
use Rattle.device_file.specs.declared.headings.TheConstants.{CLASSES}

-- a heading is a control with which nothing is wrong
pub heading_is_well_formed : (class : ℕ) → IsWellFormed (heading class)
heading_is_well_formed class = IsWellFormed-test (heading class) refl

plus_one : (n : ℕ) → n + 1 ≡ suc n
plus_one n = omega arith

-- no class so far, and one more
pub of_none : (plain plan : PlanData) (h : ℕ) → with_headings_of plain plan h 0 ≡ plan
unfolding with_headings_of
of_none plain plan h = refl

pub of_more : (plain plan : PlanData) (h n : ℕ) → with_headings_of plain plan h (n + 1) ≡ with_lacking plain (with_headings_of plain plan h n) h (n * 0x10000)
unfolding with_headings_of
of_more plain plan h n = rw (plus_one n) refl

-- no handler so far, and one more
pub below_none : (plain plan : PlanData) → with_headings_below plain plan 0 ≡ plan
unfolding with_headings_below
below_none plain plan = refl

pub below_more : (plain plan : PlanData) (h : ℕ) → with_headings_below plain plan (h + 1) ≡ with_headings_of plain (with_headings_below plain plan h) h CLASSES
unfolding with_headings_below
below_more plain plan h = rw (plus_one h) refl
