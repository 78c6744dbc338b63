use Rattle.std.proofs.Common.{◌∙◌, ◌<◌, ℕ, List, length, take, drop, get_or, map, sym, ap, subst, arith}
use Rattle.std.proofs.lemmas.List.{length-map, take_more, take_all}
use Rattle.std.proofs.lemmas.List.Elements.{All-get_or}
use Rattle.ctrl_forecast.specs.Frames.{AreRenewed, FrameData, Setting, queued_of, setting}
use Rattle.ctrl_forecast.proofs.AskingLemmas.{named_all, named_next}
use Rattle.ctrl_forecast.proofs.TurnLemmas.{still_ready, turns_kept, turns_next}
use Rattle.ctrl_forecast.proofs.renewing.renew_clusters.Goals as goal

pub renew_cluster-requires-clause-elsewhere : goal.renew_cluster-requires-clause-elsewhere
renew_cluster-requires-clause-elsewhere g c =
    let s : Setting = setting g.D.Validates.verdict c.args.at.now.plan.now c.args.at.now.ranges.now c.args.at.now.values.now c.args.at.now.grabs.now in
    let i : ℕ = c.loop-cluster.cluster-index in
    let ks : List ℕ = c.args.clusters.now in
    λ j other less. still_ready s c.args.from ks (take i ks) c.args.frames.now.items c.loop-cluster.frames.items c.requires.ready c.loop-cluster.invariant.renewed (get_or ks i 0) j
    (All-get_or (λ k. k < length c.args.at.now.plan.now.clusters) ks i 0 c.loop-cluster-test.true c.requires.clusters) other less

pub renew_cluster-requires-clause-from : goal.renew_cluster-requires-clause-from
renew_cluster-requires-clause-from g c =
    omega (arith, c.requires.from, ap length c.loop-cluster.invariant.renewed.queued, length-map c.loop-cluster.frames.items queued_of, length-map c.args.frames.now.items queued_of)

pub loop-cluster-preserved : goal.loop-cluster-preserved
loop-cluster-preserved g c =
    let s : Setting = setting g.D.Validates.verdict c.args.at.now.plan.now c.args.at.now.ranges.now c.args.at.now.values.now c.args.at.now.grabs.now in
    let old : List FrameData = c.args.frames.now.items in
    let fs : List FrameData = c.loop-cluster.frames.items in
    let gs : List FrameData = c.renew_cluster.new.frames.items in
    let i : ℕ = c.loop-cluster.cluster-index in
    let ks : List ℕ = c.args.clusters.now in
    record {
      renewed = subst (λ (l : List ℕ). AreRenewed s l old gs) (sym (take_more ks i 0 c.loop-cluster-test.true))
          (turns_next s (get_or ks i 0) (take i ks) old fs gs c.loop-cluster.invariant.renewed c.renew_cluster.ensures.renewed c.renew_cluster.ensures.apart);
      asked = named_next s.plan c.args.from i c.args.work.now.asked c.loop-cluster.work.asked c.renew_cluster.new.work.asked ks (map queued_of fs) (map queued_of old) c.loop-cluster-test.true c.loop-cluster.invariant.renewed.queued
          c.loop-cluster.invariant.asked c.renew_cluster.ensures.asked;
      grows = omega (arith, c.loop-cluster.invariant.grows, c.renew_cluster.ensures.grows);
      told = c.renew_cluster.ensures.told ∙ c.loop-cluster.invariant.told;
    }

pub returns-clause-frames : goal.returns-clause-frames
returns-clause-frames g c =
    let s : Setting = setting g.D.Validates.verdict c.args.at.now.plan.now c.args.at.now.ranges.now c.args.at.now.values.now c.args.at.now.grabs.now in
    let old : List FrameData = c.args.frames.now.items in
    let fs : List FrameData = c.loop-cluster.frames.items in
    turns_kept s c.args.from c.args.clusters.now old fs c.args.at.now.planned c.args.at.now.valued c.requires.ready
    (subst (λ (l : List ℕ). AreRenewed s l old fs) (take_all c.loop-cluster.cluster-index c.args.clusters.now c.loop-cluster-test.false) c.loop-cluster.invariant.renewed)

pub returns-clause-asked : goal.returns-clause-asked
returns-clause-asked g c =
    named_all c.args.at.now.plan.now (drop c.args.from (map queued_of c.args.frames.now.items)) c.loop-cluster.cluster-index c.args.work.now.asked c.loop-cluster.work.asked c.args.clusters.now c.loop-cluster-test.false
    c.loop-cluster.invariant.asked
