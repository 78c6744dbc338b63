use Rattle.std.proofs.Common.{◌≡◌, ◌∙◌, ap, length, subst, sym, List, ℕ}
use Rattle.ctrl_clusters.specs.Rows.{Values}
use Rattle.frame_forecast.specs.Boards.{RoomData}
use Rattle.frame_forecast.specs.Sparse.{SparseFrame, values_upto, with_rows_of}
use Rattle.frame_forecast.proofs.RenewedBoards.{behind_ready}
use Rattle.frame_forecast.proofs.board.renew_behind.Goals as goal

-- what is loaded is what stood there while the frame was queued
pub renew_until-requires-clause-ready : goal.renew_until-requires-clause-ready
renew_until-requires-clause-ready g c =
    behind_ready g.D.Validates.verdict c.args.at.now.plan.now c.args.removed.now c.args.at.now.ranges.now c.args.at.now.grabs.now c.args.at.now.values.now c.args.frames.now.items c.args.place c.reached-3.result.now c.reached.result.now c.reached-2.result.now
    c.room.inside.spare.items c.load_before.new.spare.items c.load_reached.new.values.items c.args.at.now.planned.is_plan c.reached-3.ensures c.reached.ensures c.reached-2.ensures
    (ap (λ (r : RoomData). r.spare) c.room.view_is ∙ c.requires.room.spare)
    (c.load_before.ensures.values
    ∙ ap (λ (fs : List SparseFrame). with_rows_of c.args.at.now.plan.now (values_upto c.args.at.now.values.now fs c.args.place) c.reached.result.now c.room.inside.spare.items) c.as_slice.ensures.value)
    c.load_reached.ensures.values c.requires.ready
