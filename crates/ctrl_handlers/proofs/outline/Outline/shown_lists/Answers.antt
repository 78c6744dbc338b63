use Rattle.std.proofs.Common.{◌∷◌, [], ◌++◌, List, ℕ, length, ap, sym, ◌∙◌, arith, rules}
use Rattle.ctrl_handlers.specs.Visible.{shown_below}
use Rattle.ctrl_handlers.proofs.ShownLemmas.{shown_none, shown_more, length-shown_below}
use Rattle.ctrl_handlers.proofs.outline.Outline.shown_lists.Goals as goal

-- no list at first
pub loop-handler-init : goal.loop-handler-init
loop-handler-init c = record {
  lists = c.in_ok-lists.ensures.items ∙ sym (shown_none c.args.self.now);
  room = search rules;
}

-- there is room for one list a handler
pub push_reserved-requires : goal.push_reserved-requires
push_reserved-requires c =
    omega (arith, ap length c.loop-handler.invariant.lists, length-shown_below c.args.self.now c.loop-handler.handler, c.loop-handler.invariant.room, c.loop-handler-test.true, c.loop-handler.lists.ok.0)

-- one more list
pub loop-handler-preserved : goal.loop-handler-preserved
loop-handler-preserved c = record {
  lists = c.push_reserved.ensures.items
      ∙ ap (λ (ls : List (List ℕ)). ls ++ c.in_ok-list.list ∷ []) c.loop-handler.invariant.lists
      ∙ ap (λ (l : List ℕ). shown_below c.args.self.now c.loop-handler.handler ++ l ∷ []) c.in_ok-list.ensures
      ∙ sym (shown_more c.args.self.now c.loop-handler.handler);
  room = search rules;
}
