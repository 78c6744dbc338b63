use Rattle.std.proofs.Common.{◌≡◌, ◌==◌, ℕ, slice_index_or, drop}
use Rattle.std.specs.List.{find as first_that}
use Rattle.ctrl_handlers.specs.Plan.{no_control}
use Rattle.ctrl_handlers.proofs.showing.first_with_id.Given as goal

-- the answer stands among the numbers that are left
abbrev pub invariant-loop-number : goal.invariant-loop-number
invariant-loop-number l =
    let test = λ (c : ℕ). (slice_index_or l.controls c no_control).id.0 == l.id.0 in
    first_that test l.numbers ≡ first_that test (drop l.number-index l.numbers)
