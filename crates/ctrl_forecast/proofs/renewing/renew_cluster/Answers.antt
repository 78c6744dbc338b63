use Rattle.std.proofs.Common.{◌∙◌, ◌<◌, ◌+◌, ℕ, Bool, List, length, nat_eq, is_err, refl, sym, ap, subst, arith}
use Rattle.std.specs.List.{list_any}
use Rattle.std.proofs.lemmas.List.{length-replicate, length-set}
use Rattle.ctrl_types.specs.Values.{zero_value}
use Rattle.ctrl_handlers.specs.Plan.{members}
use Rattle.ctrl_clusters.specs.Rows.{row_of}
use Rattle.ctrl_forecast.specs.Frames.{FrameData, IsAlikeIn, IsClusterRenewed, Setting, base_at, frame_at, renewed, row_over, row_result, setting}
use Rattle.ctrl_forecast.specs.Unchanged.{is_same_outcome}
use Rattle.ctrl_forecast.proofs.AskingLemmas.{naming_next}
use Rattle.ctrl_forecast.proofs.RenewLemmas.{renewed_next, renewed_none}
use Rattle.ctrl_forecast.proofs.WalkLemmas.{alike_next, later_next, stopped, walk_stops}
use Rattle.ctrl_forecast.proofs.renewing.renew_cluster.Goals as goal

pub loop-place-init : goal.loop-place-init
loop-place-init g c =
    let s : Setting = setting g.D.Validates.verdict c.args.at.now.plan.now c.args.at.now.ranges.now c.args.at.now.values.now c.args.at.now.grabs.now in
    record {
      renewed = renewed_none s c.args.cluster c.args.from c.args.frames.now.items c.requires.frames (λ i early less. c.requires.elsewhere i (λ e. absurd (omega (arith, early, e))) less);
      apart = λ j lt other. record { rows = λ i. refl; refused = λ i. refl };
      later = λ i le. refl;
      many = refl;
      asked = omega arith;
      grows = omega arith;
      told = refl;
      row = ap length c.zeros-row.ensures ∙ length-replicate (length c.members.result.now) zero_value ∙ ap length c.members.ensures.members;
    }

pub loop-place-preserved : goal.loop-place-preserved
loop-place-preserved g c =
    let s : Setting = setting g.D.Validates.verdict c.args.at.now.plan.now c.args.at.now.ranges.now c.args.at.now.values.now c.args.at.now.grabs.now in
    let old : List FrameData = c.args.frames.now.items in
    let fs : List FrameData = c.loop-place.frames.items in
    let p : ℕ = c.loop-place.place in
    let k : ℕ = c.args.cluster in
    let lt : p < length fs = omega (arith, c.loop-place-test.true, c.len-place-end.ensures, c.loop-place.invariant.many, c.args.frames.now.ok) in
    record {
      renewed = subst (IsClusterRenewed s k (p + 1) old) (sym c.renew_at.ensures.frames) (renewed_next s k p old fs c.args.at.now.planned.is_plan c.requires.cluster lt c.loop-place.invariant.renewed);
      apart = λ j within other. subst (IsAlikeIn s.plan j old) (sym c.renew_at.ensures.frames)
          (alike_next s k p j old fs c.args.at.now.planned.is_plan c.loop-place.invariant.renewed.frames_ok lt c.requires.cluster within other (c.loop-place.invariant.apart j within other));
      later = λ i le. ap (λ (l : List FrameData). frame_at l i) c.renew_at.ensures.frames ∙ later_next s k p old fs c.loop-place.invariant.later i le;
      many = ap length c.renew_at.ensures.frames ∙ length-set fs p (renewed s (base_at s fs p) k (frame_at fs p)) ∙ c.loop-place.invariant.many;
      asked = omega (arith, c.loop-place.invariant.asked, c.renew_at.ensures.asked, naming_next s.plan k p old fs lt c.loop-place.invariant.renewed.queued);
      grows = omega (arith, c.loop-place.invariant.grows, c.renew_at.ensures.grows);
      told = c.renew_at.ensures.told ∙ c.loop-place.invariant.told;
      row = c.renew_at.ensures.long;
    }

-- the frame came out as it was
pub returns-then-not-renew_at-clause-renewed : goal.returns-then-not-renew_at-clause-renewed
returns-then-not-renew_at-clause-renewed g c =
    let s : Setting = setting g.D.Validates.verdict c.args.at.now.plan.now c.args.at.now.ranges.now c.args.at.now.values.now c.args.at.now.grabs.now in
    let old : List FrameData = c.args.frames.now.items in
    let fs : List FrameData = c.loop-place.frames.items in
    let p : ℕ = c.loop-place.place in
    let k : ℕ = c.args.cluster in
    let lt : p < length fs = omega (arith, c.loop-place-test.true, c.len-place-end.ensures, c.loop-place.invariant.many, c.args.frames.now.ok) in
    let same : Bool = is_same_outcome (row_of (frame_at fs p).values (members s.plan k)) (list_any (nat_eq k) (frame_at fs p).refused) (row_over s (base_at s fs p) (frame_at fs p).asked k) (is_err (row_result s (base_at s fs p) (frame_at fs p).asked k)) in
    subst (λ (l : List FrameData). IsClusterRenewed s k (length l) old l) (sym c.renew_at.ensures.frames)
    (walk_stops s k c.args.from p old fs c.args.at.now.planned.is_plan c.requires.cluster c.loop-place.auto.place lt c.loop-place.invariant.many c.requires.elsewhere c.loop-place.invariant.later
    (stopped c.renew_at.result same c.if-not-renew_at.true c.renew_at.ensures.changed) c.loop-place.invariant.renewed)

pub returns-then-not-renew_at-clause-apart : goal.returns-then-not-renew_at-clause-apart
returns-then-not-renew_at-clause-apart g c =
    let s : Setting = setting g.D.Validates.verdict c.args.at.now.plan.now c.args.at.now.ranges.now c.args.at.now.values.now c.args.at.now.grabs.now in
    let old : List FrameData = c.args.frames.now.items in
    let fs : List FrameData = c.loop-place.frames.items in
    let p : ℕ = c.loop-place.place in
    let lt : p < length fs = omega (arith, c.loop-place-test.true, c.len-place-end.ensures, c.loop-place.invariant.many, c.args.frames.now.ok) in
    λ j within other. subst (IsAlikeIn s.plan j old) (sym c.renew_at.ensures.frames)
    (alike_next s c.args.cluster p j old fs c.args.at.now.planned.is_plan c.loop-place.invariant.renewed.frames_ok lt c.requires.cluster within other (c.loop-place.invariant.apart j within other))

pub returns-then-not-renew_at-clause-asked : goal.returns-then-not-renew_at-clause-asked
returns-then-not-renew_at-clause-asked g c =
    let old : List FrameData = c.args.frames.now.items in
    let fs : List FrameData = c.loop-place.frames.items in
    let p : ℕ = c.loop-place.place in
    let lt : p < length fs = omega (arith, c.loop-place-test.true, c.len-place-end.ensures, c.loop-place.invariant.many, c.args.frames.now.ok) in
    omega (arith, c.loop-place.invariant.asked, c.renew_at.ensures.asked, naming_next c.args.at.now.plan.now c.args.cluster p old fs lt c.loop-place.invariant.renewed.queued)

pub returns-clause-asked : goal.returns-clause-asked
returns-clause-asked g c = omega (arith, c.loop-place.invariant.asked)
