use Rattle.std.proofs.Common.{◌≡◌, sym, subst, List}
use Rattle.std.specs.List.{All}
use Rattle.ctrl_settle.specs.Control.{Control}
use Rattle.ctrl_handlers.specs.Plan.{PlanData, members}
use Rattle.ctrl_clusters.specs.Following.{ranges_under}
use Rattle.ctrl_clusters.specs.Overlay.{row_after}
use Rattle.ctrl_clusters.specs.Rows.{Values, row_of}
use Rattle.frame_forecast.specs.Sparse.{IsLoaded, values_upto}
use Rattle.frame_forecast.proofs.LoadLemmas.{err_loaded, loaded_row, loaded_rows, ok_loaded}
use Rattle.frame_forecast.proofs.loading.judged_row.Goals as goal

pub returns-clause-ok : goal.returns-clause-ok
returns-clause-ok g c =
    let plan : PlanData = c.args.at.now.plan.now in
    let ranges : List Control = c.args.at.now.ranges.now in
    let base : Values = values_upto c.args.at.now.values.now c.args.frames.now c.args.place in
    let values : Values = c.as_slice.result.now in
    let loaded : List Control = c.load_members.new.ranges in
    let own : All (IsLoaded plan.followers ranges base values loaded) (members plan c.args.cluster) =
    subst (λ (v : Values). All (IsLoaded plan.followers ranges base v loaded) (members plan c.args.cluster)) (sym c.as_slice.ensures.value)
    (subst (All (IsLoaded plan.followers ranges base c.load_members.new.values.items loaded)) c.members.ensures.members c.load_members.ensures.loaded) in
    let same : row_after g.D.Validates.verdict plan loaded values c.args.at.now.grabs.now c.args.asked.now c.args.cluster ≡ row_after g.D.Validates.verdict plan (ranges_under plan.followers ranges base) base c.args.at.now.grabs.now c.args.asked.now c.args.cluster =
    loaded_rows g.D.Validates.verdict plan ranges base values loaded c.args.at.now.grabs.now c.args.asked.now c.args.cluster c.args.at.now.ranged.many (c.args.at.now.planned.is_plan.members_known c.args.cluster) own in
    ok_loaded (row_after g.D.Validates.verdict plan loaded values c.args.at.now.grabs.now c.args.asked.now c.args.cluster)
    (row_after g.D.Validates.verdict plan (ranges_under plan.followers ranges base) base c.args.at.now.grabs.now c.args.asked.now c.args.cluster) c.row_after.result c.row_after.new.row
    (row_of values (members plan c.args.cluster)) (row_of base (members plan c.args.cluster)) same (loaded_row plan.followers ranges base values loaded (members plan c.args.cluster) own) c.row_after.ensures.ok

pub returns-clause-err : goal.returns-clause-err
returns-clause-err g c =
    let plan : PlanData = c.args.at.now.plan.now in
    let ranges : List Control = c.args.at.now.ranges.now in
    let base : Values = values_upto c.args.at.now.values.now c.args.frames.now c.args.place in
    let values : Values = c.as_slice.result.now in
    let loaded : List Control = c.load_members.new.ranges in
    let own : All (IsLoaded plan.followers ranges base values loaded) (members plan c.args.cluster) =
    subst (λ (v : Values). All (IsLoaded plan.followers ranges base v loaded) (members plan c.args.cluster)) (sym c.as_slice.ensures.value)
    (subst (All (IsLoaded plan.followers ranges base c.load_members.new.values.items loaded)) c.members.ensures.members c.load_members.ensures.loaded) in
    let same : row_after g.D.Validates.verdict plan loaded values c.args.at.now.grabs.now c.args.asked.now c.args.cluster ≡ row_after g.D.Validates.verdict plan (ranges_under plan.followers ranges base) base c.args.at.now.grabs.now c.args.asked.now c.args.cluster =
    loaded_rows g.D.Validates.verdict plan ranges base values loaded c.args.at.now.grabs.now c.args.asked.now c.args.cluster c.args.at.now.ranged.many (c.args.at.now.planned.is_plan.members_known c.args.cluster) own in
    err_loaded (row_after g.D.Validates.verdict plan loaded values c.args.at.now.grabs.now c.args.asked.now c.args.cluster)
    (row_after g.D.Validates.verdict plan (ranges_under plan.followers ranges base) base c.args.at.now.grabs.now c.args.asked.now c.args.cluster) c.row_after.result same c.row_after.ensures.err
