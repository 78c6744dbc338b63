use Rattle.std.proofs.Common.{◌∙◌, ◌<◌, ◌+◌, ℕ, List, length, refl, sym, ap, subst, arith}
use Rattle.std.proofs.lemmas.List.{length-replicate, length-set}
use Rattle.ctrl_types.specs.Values.{zero_value}
use Rattle.ctrl_forecast.specs.Frames.{FrameData, IsClusterRenewed, Setting, base_at, frame_at, renewed, setting}
use Rattle.ctrl_forecast.proofs.AskingLemmas.{naming_next}
use Rattle.ctrl_forecast.proofs.RenewLemmas.{renewed_next, renewed_none}
use Rattle.ctrl_forecast.proofs.renewing.rejudge_cluster.Goals as goal

pub loop-place-init : goal.loop-place-init
loop-place-init g c =
    let s : Setting = setting g.D.Validates.verdict c.args.at.now.plan.now c.args.at.now.ranges.now c.args.at.now.values.now c.args.at.now.grabs.now in
    record {
      renewed = renewed_none s c.args.cluster c.args.from c.args.frames.now.items c.requires.frames c.requires.before;
      many = refl;
      asked = omega arith;
      grows = omega arith;
      told = refl;
      row = ap length c.zeros-row.ensures ∙ length-replicate (length c.members.result.now) zero_value ∙ ap length c.members.ensures.members;
    }

pub loop-place-preserved : goal.loop-place-preserved
loop-place-preserved g c =
    let s : Setting = setting g.D.Validates.verdict c.args.at.now.plan.now c.args.at.now.ranges.now c.args.at.now.values.now c.args.at.now.grabs.now in
    let fs : List FrameData = c.loop-place.frames.items in
    let p : ℕ = c.loop-place.place in
    let k : ℕ = c.args.cluster in
    let lt : p < length fs = omega (arith, c.loop-place-test.true, c.len-place-end.ensures, c.loop-place.invariant.many, c.args.frames.now.ok) in
    record {
      renewed = subst (IsClusterRenewed s k (p + 1) c.args.frames.now.items) (sym c.renew_at.ensures.frames) (renewed_next s k p c.args.frames.now.items fs c.args.at.now.planned.is_plan c.requires.cluster lt c.loop-place.invariant.renewed);
      many = ap length c.renew_at.ensures.frames ∙ length-set fs p (renewed s (base_at s fs p) k (frame_at fs p)) ∙ c.loop-place.invariant.many;
      asked = omega (arith, c.loop-place.invariant.asked, c.renew_at.ensures.asked, naming_next s.plan k p c.args.frames.now.items fs lt c.loop-place.invariant.renewed.queued);
      grows = omega (arith, c.loop-place.invariant.grows, c.renew_at.ensures.grows);
      told = c.renew_at.ensures.told ∙ c.loop-place.invariant.told;
      row = c.renew_at.ensures.long;
    }

pub returns-clause-asked : goal.returns-clause-asked
returns-clause-asked g c = omega (arith, c.loop-place.invariant.asked)
