use Rattle.std.proofs.Common.{◌≡◌, ◌<◌, drop, length}
use Rattle.std.specs.List.{All}
use Rattle.ctrl_handlers.specs.Visible.{all_brought}
use Rattle.ctrl_handlers.proofs.showing.bring_all.Given as goal

-- the numbers that are left bring the rest
abbrev pub invariant-loop-number : goal.invariant-loop-number
invariant-loop-number l = record {
  rest : all_brought l.controls l.shown (drop l.number-index l.numbers) ≡ all_brought l.controls l.initial.shown l.numbers;
  known : All (λ c. c < length l.controls) l.shown;
}
