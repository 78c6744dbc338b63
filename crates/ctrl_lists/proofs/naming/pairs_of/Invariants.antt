use Rattle.std.proofs.Common.{◌≡◌, ◌≤◌, ◌<◌, take, drop, length, vec_capacity}
use Rattle.std.specs.List.{All}
use Rattle.ctrl_lists.specs.View.{pairs_of}
use Rattle.ctrl_lists.specs.Checks.{first_from, at_first, naming_check}
use Rattle.ctrl_lists.proofs.naming.pairs_of.Given as goal

-- the pairs so far, of entries that each name a control
abbrev pub invariant-loop-place : goal.invariant-loop-place
invariant-loop-place g l = record {
  so_far : l.pairs.items ≡ pairs_of l.view.plan l.view.parts.handler l.view.parts.which (take l.place l.list);
  each : length l.pairs.items ≡ l.place;
  none : first_from (naming_check l.view.plan l.view.parts) l.place (drop l.place l.list) ≡ at_first (naming_check l.view.plan l.view.parts) l.list;
  known : All (λ p. p.control < length l.view.plan.controls) l.pairs.items;
  room : length l.list ≤ vec_capacity l.pairs;
}
