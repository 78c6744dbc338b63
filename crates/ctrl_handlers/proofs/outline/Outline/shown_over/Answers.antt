use Rattle.std.proofs.Common.{ap, length, ◌∙◌}
use Rattle.ctrl_handlers.proofs.ShownLemmas.{below_known, length-shown_below}
use Rattle.ctrl_handlers.proofs.outline.Outline.shown_over.Goals as goal

-- what the handlers before this one show is known
pub bring_added-requires-clause-below : goal.bring_added-requires-clause-below
bring_added-requires-clause-below c =
    rw (c.requires.below, c.controls.ensures.controls) (below_known c.args.self.now c.args.handler c.controls.ensures.plan)

-- each handler that it adds is one of them
pub bring_added-requires-clause-added : goal.bring_added-requires-clause-added
bring_added-requires-clause-added c =
    rw (ap length c.requires.below ∙ length-shown_below c.args.self.now c.args.handler) c.added.ensures.before
