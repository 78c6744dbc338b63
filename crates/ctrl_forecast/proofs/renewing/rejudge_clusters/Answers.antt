use Rattle.std.proofs.Common.{◌∙◌, ◌+◌, ℕ, List, drop, get_or, map, ap, subst, arith}
use Rattle.std.proofs.lemmas.List.{drop_more, drop_all}
use Rattle.ctrl_forecast.specs.Boards.{board_of}
use Rattle.ctrl_forecast.specs.Frames.{AreReady, FrameData, Setting, queued_of, setting}
use Rattle.ctrl_forecast.proofs.AskingLemmas.{named_all, named_next}
use Rattle.ctrl_forecast.proofs.KeptLemmas.{ready_kept, ready_next}
use Rattle.ctrl_forecast.proofs.renewing.rejudge_clusters.Goals as goal

pub loop-cluster-preserved : goal.loop-cluster-preserved
loop-cluster-preserved g c =
    let s : Setting = setting g.D.Validates.verdict c.args.at.now.plan.now c.args.at.now.ranges.now c.args.at.now.values.now c.args.at.now.grabs.now in
    let fs : List FrameData = c.loop-cluster.frames.items in
    let gs : List FrameData = c.rejudge_cluster.new.frames.items in
    let i : ℕ = c.loop-cluster.cluster-index in
    let ks : List ℕ = c.args.clusters.now in
    record {
      ready = ready_next s c.args.from (get_or ks i 0) (drop (i + 1) ks) fs gs (subst (λ (l : List ℕ). AreReady s c.args.from l fs) (drop_more ks i 0 c.loop-cluster-test.true) c.loop-cluster.invariant.ready) c.rejudge_cluster.ensures.renewed;
      queued = c.rejudge_cluster.ensures.renewed.queued ∙ c.loop-cluster.invariant.queued;
      asked = named_next s.plan c.args.from i c.args.work.now.asked c.loop-cluster.work.asked c.rejudge_cluster.new.work.asked ks (map queued_of fs) (map queued_of c.args.frames.now.items) c.loop-cluster-test.true c.loop-cluster.invariant.queued
          c.loop-cluster.invariant.asked c.rejudge_cluster.ensures.asked;
      grows = omega (arith, c.loop-cluster.invariant.grows, c.rejudge_cluster.ensures.grows);
      told = c.rejudge_cluster.ensures.told ∙ c.loop-cluster.invariant.told;
    }

pub returns-clause-frames : goal.returns-clause-frames
returns-clause-frames g c =
    let s : Setting = setting g.D.Validates.verdict c.args.at.now.plan.now c.args.at.now.ranges.now c.args.at.now.values.now c.args.at.now.grabs.now in
    let fs : List FrameData = c.loop-cluster.frames.items in
    ready_kept g.D.Validates.verdict c.args.at.now.plan.now c.args.at.now.ranges.now c.args.at.now.grabs.now c.args.at.now.values.now c.args.from fs c.args.at.now.planned c.args.at.now.valued
    (subst (λ (l : List ℕ). AreReady s c.args.from l fs) (drop_all c.loop-cluster.cluster-index c.args.clusters.now c.loop-cluster-test.false) c.loop-cluster.invariant.ready)
    ∙ ap (board_of g.D.Validates.verdict c.args.at.now.plan.now c.args.at.now.ranges.now c.args.at.now.values.now c.args.at.now.grabs.now) c.loop-cluster.invariant.queued

pub returns-clause-asked : goal.returns-clause-asked
returns-clause-asked g c =
    named_all c.args.at.now.plan.now (drop c.args.from (map queued_of c.args.frames.now.items)) c.loop-cluster.cluster-index c.args.work.now.asked c.loop-cluster.work.asked c.args.clusters.now c.loop-cluster-test.false
    c.loop-cluster.invariant.asked
