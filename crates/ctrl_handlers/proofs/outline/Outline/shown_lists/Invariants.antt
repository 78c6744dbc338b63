use Rattle.std.proofs.Common.{◌≡◌, ◌≤◌, vec_capacity}
use Rattle.ctrl_handlers.specs.Visible.{shown_below}
use Rattle.ctrl_handlers.proofs.outline.Outline.shown_lists.Given as goal

-- the lists so far
abbrev pub invariant-loop-handler : goal.invariant-loop-handler
invariant-loop-handler l = record {
  lists : l.lists.items ≡ shown_below l.self l.handler;
  room : l.count ≤ vec_capacity l.lists;
}
