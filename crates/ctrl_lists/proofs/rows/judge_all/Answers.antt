use Rattle.std.proofs.Common.{◌≤◌, ◌+◌, length, inl, ap, subst, sym, ◌∙◌}
use Rattle.ctrl_types.specs.declared.check.Check.TheVariants.{RowRefused}
use Rattle.ctrl_types.specs.declared.ids.Pair.{Pair}
use Rattle.ctrl_clusters.specs.NewRows.{clusters_of}
use Rattle.ctrl_handlers.specs.Plan.{cluster_of}
use Rattle.ctrl_lists.specs.Touched.{with_cluster}
use Rattle.ctrl_lists.specs.Checks.{at_first, judging_check}
use Rattle.ctrl_lists.proofs.ListLemmas.{passes, stops, each_next, few_more, asked_more, asked_within}
use Rattle.ctrl_lists.proofs.rows.judge_all.Goals as goal

-- the first pair whose cluster is refused
pub returns-in-Err-clause-err : goal.returns-in-Err-clause-err
returns-in-Err-clause-err g c =
    let refused = judging_check g.D.Validates.verdict c.args.view.now.plan c.args.view.now.parts c.args.laid.now in
    let d = c.index-pairs-place.result in
    inl (rw c.at.ensures (stops refused (at_first refused c.args.pairs.now) c.args.pairs.now c.loop-place.place d (RowRefused c.in-Err.errno) c.loop-place-test.true (sym (ap refused c.index-pairs-place.is) ∙ c.in-Err.ensures.err) c.loop-place.invariant.none))

pub returns-in-Err-clause-at_most : goal.returns-in-Err-clause-at_most
returns-in-Err-clause-at_most g c =
    let old = c.loop-place.invariant in
    let d = c.index-pairs-place.result in
    let at_most = subst (λ (p : Pair). c.judge_next.new.work.asked + length (clusters_of c.loop-place.rows.rows) ≤ c.loop-place.work.asked + length (with_cluster (clusters_of c.loop-place.rows.rows) (cluster_of c.args.view.now.plan p.control)))
    c.index-pairs-place.is c.judge_next.ensures.at_most in
    asked_within c.args.view.now.plan c.args.pairs.now c.loop-place.place d (clusters_of c.loop-place.rows.rows) c.args.work.now.asked c.loop-place.work.asked c.judge_next.new.work.asked
    c.loop-place-test.true old.each old.asked at_most

-- one more pair, whose cluster has its row
pub loop-place-preserved : goal.loop-place-preserved
loop-place-preserved g c =
    let old = c.loop-place.invariant in
    let does = c.in_default.ensures in
    let refused = judging_check g.D.Validates.verdict c.args.view.now.plan c.args.view.now.parts c.args.laid.now in
    let d = c.index-pairs-place.result in
    let is = c.index-pairs-place.is in
    record {
      none = passes refused (at_first refused c.args.pairs.now) c.args.pairs.now c.loop-place.place d c.loop-place-test.true (sym (ap refused is) ∙ does.ok) old.none;
      each = each_next c.args.view.now.plan c.args.pairs.now c.loop-place.place d (clusters_of c.loop-place.rows.rows) (clusters_of c.judge_next.new.rows.rows) c.loop-place-test.true old.each (does.each ∙ ap (λ (p : Pair). with_cluster (clusters_of c.loop-place.rows.rows) (cluster_of c.args.view.now.plan p.control)) is);
      become = does.rows;
      within = does.within;
      long = does.long;
      few = few_more (length c.loop-place.rows.rows) (length c.judge_next.new.rows.rows) c.loop-place.place old.few c.judge_next.ensures.more;
      room = rw c.judge_next.ensures.capacity old.room;
      asked = asked_more (clusters_of c.loop-place.rows.rows) (clusters_of c.judge_next.new.rows.rows) _ c.args.work.now.asked c.loop-place.work.asked c.judge_next.new.work.asked does.each old.asked c.judge_next.ensures.at_most;
      counted = does.asked c.args.work.now.asked old.counted;
      told = c.judge_next.ensures.told ∙ old.told;
    }
