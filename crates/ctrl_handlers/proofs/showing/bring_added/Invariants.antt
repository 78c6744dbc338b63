use Rattle.std.proofs.Common.{◌≡◌, ◌<◌, drop, length, [], get_or}
use Rattle.std.specs.List.{All, fold}
use Rattle.ctrl_handlers.specs.Visible.{all_brought}
use Rattle.ctrl_handlers.proofs.showing.bring_added.Given as goal

-- the handlers that are left bring the rest
abbrev pub invariant-loop-handler : goal.invariant-loop-handler
invariant-loop-handler l = record {
  rest : fold (λ so_far a. all_brought l.controls so_far (get_or l.below a [])) l.shown (drop l.handler-index l.added)
      ≡ fold (λ so_far a. all_brought l.controls so_far (get_or l.below a [])) l.initial.shown l.added;
  known : All (λ c. c < length l.controls) l.shown;
}
