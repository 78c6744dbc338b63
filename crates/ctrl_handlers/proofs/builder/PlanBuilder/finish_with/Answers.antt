use Rattle.std.proofs.Common.{◌≡◌, ℕ, List, Result, length, take, refl, ap, sym, ◌∙◌, subst}
use Rattle.std.proofs.lemmas.Result.{IfOk-weaker, IfErr-weaker}
use Rattle.ctrl_calls.specs.declared.relation.Relations.{Relations}
use Rattle.ctrl_handlers.specs.Plan.{PlanData, IsFinished, IsPlan, all_calls, finished}
use Rattle.ctrl_handlers.specs.Visible.{shown_below, AreIndexed}
use Rattle.ctrl_handlers.proofs.FinishLemmas.{finished_calls, finished_shown}
use Rattle.ctrl_handlers.proofs.ReachLemmas.{left}
use Rattle.ctrl_handlers.proofs.builder.PlanBuilder.finish_with.Goals as goal

-- the closures are those of the clusters that were named
pub finish_clustered-requires-clause-calls : goal.finish_clustered-requires-clause-calls
finish_clustered-requires-clause-calls g c =
    rw (c.in-Ok.ensures.ok.0, c.self.invariant) (finished_calls c.self.inside.outline)

-- and what is shown stays
pub finish_clustered-requires-clause-shown : goal.finish_clustered-requires-clause-shown
finish_clustered-requires-clause-shown g c =
    rw (c.in-Ok.ensures.ok.0) (c.requires.shown ∙ ap (λ (p : PlanData). shown_below p (length p.handlers)) (sym c.self.view_is) ∙ sym (finished_shown c.self.inside.outline (length c.self.inside.outline.handlers)))

-- with its index
pub finish_clustered-requires-clause-index : goal.finish_clustered-requires-clause-index
finish_clustered-requires-clause-index g c =
    rw (c.in-Ok.ensures.ok.0) (subst (λ (p : PlanData). AreIndexed p.controls c.args.shown.items c.args.index.items) (sym c.self.view_is) c.requires.index)

-- without the clusters that no call named it is the plan before
pub finish_clustered-requires-clause-named : goal.finish_clustered-requires-clause-named
finish_clustered-requires-clause-named g c =
    let old = c.self.inside.outline in
    subst (λ (p : PlanData). IsPlan (record p { clusters = take c.cluster_count-named.result p.clusters })) (sym c.in-Ok.ensures.ok.0)
    (subst (λ (n : ℕ). IsPlan (record (finished old) { clusters = take n (finished old).clusters })) (sym c.cluster_count-named.ensures.count) (subst IsPlan (sym (left old)) c.cluster_count-named.ensures.plan))

pub returns-in-Ok-clause-err : goal.returns-in-Ok-clause-err
returns-in-Ok-clause-err g c =
    let old = c.self.inside.outline in
    IfErr-weaker c.finish_clustered.result _ _
    (λ e is. (
      is.0
          ∙ ap (λ (p : PlanData). record p { clusters = take c.cluster_count-named.result p.clusters }) c.in-Ok.ensures.ok.0
          ∙ ap (λ (n : ℕ). record (finished old) { clusters = take n (finished old).clusters }) c.cluster_count-named.ensures.count
          ∙ left old
          ∙ c.self.view_is,
      is.1,
    ))
    c.finish_clustered.ensures.err
