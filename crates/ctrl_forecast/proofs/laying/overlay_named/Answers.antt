use Rattle.std.proofs.Common.{◌≡◌, ◌∙◌, ◌≤◌, ◌+◌, ◌∷◌, ℕ, List, Bool, Vec, Global, length, drop, get_or, ap, refl, subst, arith}
use Rattle.std.proofs.lemmas.List.{drop_more, drop_all}
use Rattle.std.proofs.lemmas.List.Sums.{length-filter}
use Rattle.std.specs.List.{range_with_len}
use Rattle.ctrl_types.specs.declared.value.CtrlValue.{CtrlValue}
use Rattle.ctrl_handlers.specs.Plan.{members}
use Rattle.ctrl_clusters.specs.Rows.{Values}
use Rattle.ctrl_clusters.specs.Overlay.{is_touched, refused_clusters}
use Rattle.ctrl_forecast.specs.Touched.{touched_count}
use Rattle.ctrl_forecast.proofs.LayingLemmas.{below_end}
use Rattle.ctrl_forecast.proofs.LaidLemmas.{Laying, IsLaid, laying, keep_rows, laid_start, laid_long, laid_next, laid_ok, laid_err, laid_end}
use Rattle.ctrl_forecast.proofs.laying.overlay_named.Goals.{in-Ok, in-Err+in_ok-push-in-Err}
use Rattle.ctrl_forecast.proofs.laying.overlay_named.Goals as goal

pub loop-cluster-init : goal.loop-cluster-init
loop-cluster-init g c = record {
  laid = laid_start (laying g.D.Validates.verdict c.args.at.now.plan.now c.args.at.now.ranges.now c.args.at.now.values.now c.args.at.now.grabs.now c.args.pairs.now) c.args.named.now c.in_ok-after.after.items c.new-refused.result.items
      c.requires.named c.in_ok-after.ensures.items c.new-refused.ensures.items;
  asked = omega arith;
  grows = omega arith;
  told = refl;
}

pub members-requires : goal.members-requires
members-requires g c =
    let l : Laying = laying g.D.Validates.verdict c.args.at.now.plan.now c.args.at.now.ranges.now c.args.at.now.values.now c.args.at.now.grabs.now c.args.pairs.now in
    let i : ℕ = c.loop-cluster.cluster-index in
    let ks : List ℕ = c.args.named.now in
    (laid_next l (get_or ks i 0) (drop (i + 1) ks) c.loop-cluster.after.items c.loop-cluster.refused.items
    (subst (λ (left : List ℕ). IsLaid l left c.loop-cluster.after.items c.loop-cluster.refused.items) (drop_more ks i 0 c.loop-cluster-test.true) c.loop-cluster.invariant.laid)).0

pub touched_row-requires-clause-cluster : goal.touched_row-requires-clause-cluster
touched_row-requires-clause-cluster g c =
    let l : Laying = laying g.D.Validates.verdict c.args.at.now.plan.now c.args.at.now.ranges.now c.args.at.now.values.now c.args.at.now.grabs.now c.args.pairs.now in
    let i : ℕ = c.loop-cluster.cluster-index in
    let ks : List ℕ = c.args.named.now in
    (laid_next l (get_or ks i 0) (drop (i + 1) ks) c.loop-cluster.after.items c.loop-cluster.refused.items
    (subst (λ (left : List ℕ). IsLaid l left c.loop-cluster.after.items c.loop-cluster.refused.items) (drop_more ks i 0 c.loop-cluster-test.true) c.loop-cluster.invariant.laid)).0

pub touched_row-requires-clause-touched : goal.touched_row-requires-clause-touched
touched_row-requires-clause-touched g c =
    let l : Laying = laying g.D.Validates.verdict c.args.at.now.plan.now c.args.at.now.ranges.now c.args.at.now.values.now c.args.at.now.grabs.now c.args.pairs.now in
    let i : ℕ = c.loop-cluster.cluster-index in
    let ks : List ℕ = c.args.named.now in
    (laid_next l (get_or ks i 0) (drop (i + 1) ks) c.loop-cluster.after.items c.loop-cluster.refused.items
    (subst (λ (left : List ℕ). IsLaid l left c.loop-cluster.after.items c.loop-cluster.refused.items) (drop_more ks i 0 c.loop-cluster-test.true) c.loop-cluster.invariant.laid)).1

pub write_row-requires-clause-values : goal.write_row-requires-clause-values
write_row-requires-clause-values g c =
    laid_long (laying g.D.Validates.verdict c.args.at.now.plan.now c.args.at.now.ranges.now c.args.at.now.values.now c.args.at.now.grabs.now c.args.pairs.now) (drop c.loop-cluster.cluster-index c.args.named.now) c.loop-cluster.after.items
    c.loop-cluster.refused.items c.loop-cluster.invariant.laid
    ∙ c.args.at.now.valued

pub returns-in_err-push-in-Err-clause-asked : goal.returns-in_err-push-in-Err-clause-asked
returns-in_err-push-in-Err-clause-asked g c =
    let touched : ℕ → Bool = λ j. is_touched c.args.pairs.now (members c.args.at.now.plan.now j) in
    let many : length c.args.named.now ≡ touched_count c.args.at.now.plan.now c.args.pairs.now = ap length c.requires.named ∙ length-filter touched (range_with_len 0 (length c.args.at.now.plan.now.clusters)) in
    omega (arith, c.loop-cluster.invariant.asked, c.touched_row.ensures.asked, c.loop-cluster-test.true, many)

pub loop-cluster-preserved : goal.loop-cluster-preserved
loop-cluster-preserved g c =
    let l : Laying = laying g.D.Validates.verdict c.args.at.now.plan.now c.args.at.now.ranges.now c.args.at.now.values.now c.args.at.now.grabs.now c.args.pairs.now in
    let i : ℕ = c.loop-cluster.cluster-index in
    let ks : List ℕ = c.args.named.now in
    let k : ℕ = get_or ks i 0 in
    let old : Values = c.loop-cluster.after.items in
    let before : List ℕ = c.loop-cluster.refused.items in
    let keep = keep_rows g.D.Validates.verdict c.args.at.now.plan.now c.args.at.now.ranges.now c.args.at.now.values.now c.args.at.now.grabs.now c.args.pairs.now in
    let laid : IsLaid l (k ∷ drop (i + 1) ks) old before = subst (λ (left : List ℕ). IsLaid l left old before) (drop_more ks i 0 c.loop-cluster-test.true) c.loop-cluster.invariant.laid in
    let asked : c.touched_row.new.work.asked ≤ c.args.work.now.asked + (i + 1) = omega (arith, c.loop-cluster.invariant.asked, c.touched_row.ensures.asked) in
    let grows : c.args.work.now.asked ≤ c.touched_row.new.work.asked = omega (arith, c.loop-cluster.invariant.grows, c.touched_row.ensures.grows) in
    elim c.match-touched_row.branch [
      | in-Ok w ↦ record {
        laid = laid_ok l k (drop (i + 1) ks) c.touched_row.new.row old c.match-touched_row.after.items before c.match-touched_row.refused.items keep laid w.in-Ok.ensures.ok
            (ap (λ (v : Vec CtrlValue Global). v.items) w.after-is ∙ w.write_row.ensures) (ap (λ (v : Vec ℕ Global). v.items) w.refused-is);
        asked = asked;
        grows = grows;
        told = c.touched_row.ensures.told ∙ c.loop-cluster.invariant.told;
      }
      | in-Err+in_ok-push-in-Err w ↦ record {
        laid = laid_err l k (drop (i + 1) ks) w.in-Err.field-0 old c.match-touched_row.after.items before c.match-touched_row.refused.items keep laid w.in-Err.ensures.err
            (ap (λ (v : Vec CtrlValue Global). v.items) w.after-is) (ap (λ (v : Vec ℕ Global). v.items) w.refused-is ∙ w.in_ok-push-in-Err.ensures.items);
        asked = asked;
        grows = grows;
        told = c.touched_row.ensures.told ∙ c.loop-cluster.invariant.told;
      }
    ]

pub returns-clause-values : goal.returns-clause-values
returns-clause-values g c =
    let l : Laying = laying g.D.Validates.verdict c.args.at.now.plan.now c.args.at.now.ranges.now c.args.at.now.values.now c.args.at.now.grabs.now c.args.pairs.now in
    let after : Values = c.loop-cluster.after.items in
    let refused : List ℕ = c.loop-cluster.refused.items in
    c.from_vec.ensures
    ∙ (laid_end l after refused (keep_rows g.D.Validates.verdict c.args.at.now.plan.now c.args.at.now.ranges.now c.args.at.now.values.now c.args.at.now.grabs.now c.args.pairs.now)
    (subst (λ (left : List ℕ). IsLaid l left after refused) (drop_all c.loop-cluster.cluster-index c.args.named.now c.loop-cluster-test.false) c.loop-cluster.invariant.laid)).0
    ∙ below_end g.D.Validates.verdict c.args.at.now.plan.now c.args.at.now.ranges.now c.args.at.now.values.now c.args.at.now.grabs.now c.args.pairs.now

pub returns-clause-refused : goal.returns-clause-refused
unfolding refused_clusters
returns-clause-refused g c =
    let l : Laying = laying g.D.Validates.verdict c.args.at.now.plan.now c.args.at.now.ranges.now c.args.at.now.values.now c.args.at.now.grabs.now c.args.pairs.now in
    let after : Values = c.loop-cluster.after.items in
    let refused : List ℕ = c.loop-cluster.refused.items in
    c.from_vec-2.ensures
    ∙ (laid_end l after refused (keep_rows g.D.Validates.verdict c.args.at.now.plan.now c.args.at.now.ranges.now c.args.at.now.values.now c.args.at.now.grabs.now c.args.pairs.now)
    (subst (λ (left : List ℕ). IsLaid l left after refused) (drop_all c.loop-cluster.cluster-index c.args.named.now c.loop-cluster-test.false) c.loop-cluster.invariant.laid)).1

pub returns-clause-long : goal.returns-clause-long
returns-clause-long g c =
    ap length c.from_vec.ensures
    ∙ laid_long (laying g.D.Validates.verdict c.args.at.now.plan.now c.args.at.now.ranges.now c.args.at.now.values.now c.args.at.now.grabs.now c.args.pairs.now) (drop c.loop-cluster.cluster-index c.args.named.now) c.loop-cluster.after.items
    c.loop-cluster.refused.items c.loop-cluster.invariant.laid

pub returns-clause-asked : goal.returns-clause-asked
returns-clause-asked g c =
    let touched : ℕ → Bool = λ j. is_touched c.args.pairs.now (members c.args.at.now.plan.now j) in
    let many : length c.args.named.now ≡ touched_count c.args.at.now.plan.now c.args.pairs.now = ap length c.requires.named ∙ length-filter touched (range_with_len 0 (length c.args.at.now.plan.now.clusters)) in
    omega (arith, c.loop-cluster.invariant.asked, c.loop-cluster.auto.cluster-index-end, many)
