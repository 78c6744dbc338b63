use Rattle.std.proofs.Common.{ℕ, List, length, subst}
use Rattle.ctrl_settle.specs.Control.{Control}
use Rattle.ctrl_handlers.specs.Plan.{PlanData}
use Rattle.ctrl_handlers.specs.Visible.{AreIndexed}
use Rattle.ctrl_handlers.proofs.ShownLemmas.{below_known}
use Rattle.ctrl_handlers.proofs.builder.PlanBuilder.finish.Goals as goal

-- what the handlers show is known
pub indexes-requires : goal.indexes-requires
indexes-requires g c =
    rw (c.as_slice.ensures.value, c.in-Ok.ensures, c.controls.ensures.controls) (below_known c.self.inside.outline (length c.self.inside.outline.handlers) c.controls.ensures.plan)

-- and the indexes are those of the plan's controls
pub finish_with-requires-clause-index : goal.finish_with-requires-clause-index
finish_with-requires-clause-index g c =
    subst (λ (p : PlanData). AreIndexed p.controls c.in-Ok.shown.items c.in-Ok-indexes.index.items) c.self.view_is
    (subst (λ (controls : List Control). AreIndexed controls c.in-Ok.shown.items c.in-Ok-indexes.index.items) c.controls.ensures.controls
    (subst (λ (lists : List (List ℕ)). AreIndexed c.controls.result.now lists c.in-Ok-indexes.index.items) c.as_slice.ensures.value c.in-Ok-indexes.ensures))
