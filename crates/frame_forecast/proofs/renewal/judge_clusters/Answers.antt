use Rattle.std.proofs.Common.{◌≡◌, ◌∙◌, ◌+◌, ap, sym, subst, List, ℕ, get_or, refl, slice_set, arith}
use Rattle.ctrl_handlers.specs.Plan.{PlanData}
use Rattle.ctrl_clusters.specs.Following.{ranges_under}
use Rattle.ctrl_clusters.specs.Rows.{Values}
use Rattle.frame_forecast.specs.Sparse.{SparseFrame, judged_frame, sparse_at, touched_among, values_upto}
use Rattle.frame_forecast.proofs.JudgedLemmas.{asked_next, judging_first, IsJudging, judging_next, naming_room}
use Rattle.frame_forecast.proofs.SparseLemmas.{length_upto}
use Rattle.frame_forecast.proofs.renewal.judge_clusters.Goals as goal

pub loop-cluster-init : goal.loop-cluster-init
loop-cluster-init g c =
    let plan : PlanData = c.args.at.now.plan.now in
    let vs : Values = c.args.at.now.values.now in
    let old : List SparseFrame = c.args.frames.now.items in
    let base : Values = values_upto vs old c.args.place in (
      judging_first g.D.Validates.verdict plan (ranges_under plan.followers c.args.at.now.ranges.now base) c.args.at.now.grabs.now base vs old c.args.place c.args.clusters.now c.requires.naming,
      c.requires.values,
      c.requires.ranges,
      omega arith,
      refl,
      omega arith,
    )

pub renew_row-requires-clause-room : goal.renew_row-requires-clause-room
renew_row-requires-clause-room g c =
    let plan : PlanData = c.args.at.now.plan.now in
    let vs : Values = c.args.at.now.values.now in
    let fs : List SparseFrame = c.loop-cluster.frames.items in
    let base : Values = values_upto vs fs c.args.place in
    let k : ℕ = get_or c.args.clusters.now c.loop-cluster.cluster-index 0 in
    naming_room g.D.Validates.verdict plan (ranges_under plan.followers c.args.at.now.ranges.now base) c.args.at.now.grabs.now base k (sparse_at fs c.args.place) (length_upto vs fs c.args.place ∙ c.args.at.now.valued)
    c.loop-cluster.invariant.0.naming (c.requires.clusters c.loop-cluster.cluster-index 0 c.loop-cluster-test.true)

pub loop-cluster-preserved : goal.loop-cluster-preserved
loop-cluster-preserved g c =
    let plan : PlanData = c.args.at.now.plan.now in
    let vs : Values = c.args.at.now.values.now in
    let old : List SparseFrame = c.args.frames.now.items in
    let fs : List SparseFrame = c.loop-cluster.frames.items in
    let p = c.args.place in
    let base : Values = values_upto vs old p in
    let i = c.loop-cluster.cluster-index in
    let k : ℕ = get_or c.args.clusters.now i 0 in
    let next : c.renew_row.new.frames.items ≡ slice_set fs p (judged_frame g.D.Validates.verdict plan (ranges_under plan.followers c.args.at.now.ranges.now base) c.args.at.now.grabs.now base k (sparse_at fs p)) =
    c.renew_row.ensures.frames
    ∙ ap (λ (b : Values). slice_set fs p (judged_frame g.D.Validates.verdict plan (ranges_under plan.followers c.args.at.now.ranges.now b) c.args.at.now.grabs.now b k (sparse_at fs p))) c.loop-cluster.invariant.0.upto in (
      subst (λ (l : List SparseFrame). IsJudging g.D.Validates.verdict plan (ranges_under plan.followers c.args.at.now.ranges.now base) c.args.at.now.grabs.now base vs old l p c.args.clusters.now (i + 1)) (sym next)
          (judging_next g.D.Validates.verdict plan (ranges_under plan.followers c.args.at.now.ranges.now base) c.args.at.now.grabs.now base vs old fs p c.args.clusters.now i c.requires.place
          (length_upto vs old p ∙ c.args.at.now.valued) c.loop-cluster-test.true (c.requires.clusters i 0 c.loop-cluster-test.true) c.loop-cluster.invariant.0),
      c.renew_row.ensures.values,
      c.renew_row.ensures.ranges,
      omega (arith, c.loop-cluster.invariant.3, c.renew_row.ensures.grows),
      c.renew_row.ensures.told ∙ c.loop-cluster.invariant.4,
      asked_next plan (sparse_at old p).asked (sparse_at fs p).asked c.args.clusters.now i (c.args.work.now.asked + touched_among plan (sparse_at old p).asked c.args.clusters.now) c.loop-cluster.work.asked c.renew_row.new.work.asked
          c.loop-cluster-test.true c.loop-cluster.invariant.0.asks c.loop-cluster.invariant.5 c.renew_row.ensures.asked,
    )
