use Rattle.std.proofs.Common.{◌≡◌, ◌∙◌, ◌<◌, ◌≤◌, ◌+◌, ap, drop, length, map, refl, subst, sym, List, ℕ, arith}
use Rattle.std.specs.List.{sum_by}
use Rattle.ctrl_clusters.specs.Moments.{parts, parts_after}
use Rattle.ctrl_forecast.specs.Forecasts.{QueuedData, named_by_frames}
use Rattle.frame_forecast.specs.Boards.{BoardData, IsBoard, IsRoomFor, RoomData, queued_in}
use Rattle.frame_forecast.specs.Sparse.{SparseFrame, queued_sparse, touched_among}
use Rattle.frame_forecast.proofs.RenewedBoards.{named_total, rejudge_ready, renewed_board}
use Rattle.frame_forecast.proofs.board.Board.rejudge.Goals as goal

-- the frames are right over ranges, values and grabs before the change
pub renew_frames-requires-clause-ready : goal.renew_frames-requires-clause-ready
renew_frames-requires-clause-ready g c =
    let board : BoardData = record { frames = c.self.inside.frames.items; room = c.self.inside.room } in
    rejudge_ready g.D.Validates.verdict c.args.change.now.before.plan.now c.args.clusters.now (parts c.args.change.now.before) (parts_after c.args.change.now) (queued_in c.args.self.now) board c.args.change.now.before.planned c.requires.before c.requires.after
    c.requires.clusters (subst (IsBoard g.D.Validates.verdict c.args.change.now.before.plan.now (parts c.args.change.now.before) (queued_in c.args.self.now)) (sym c.self.view_is) c.requires.kept) c.requires.within

-- and right over those after it
pub returns-clause-frames : goal.returns-clause-frames
returns-clause-frames g c =
    renewed_board g.D.Validates.verdict c.args.change.now.before.plan.now (parts_after c.args.change.now) c.args.change.now.ranges.now (queued_in c.args.self.now) c.self.inside.frames.items
    (record { frames = c.renew_frames.new.frames.items; room = record { ranges = c.renew_frames.new.ranges; values = length c.renew_frames.new.values.items; spare = length c.room.inside.spare.items } }) 0 (ap queued_in c.self.view_is) c.renew_frames.ensures.frames
    (λ i less within. absurd (omega (arith, less))) (λ values. refl)
    (record {
      ranges = c.renew_frames.ensures.ranges;
      values = c.renew_frames.ensures.values;
      spare = ap (λ (r : RoomData). r.spare) c.room.view_is ∙ ap (λ (b : BoardData). b.room.spare) c.self.view_is ∙ c.requires.kept.room.spare;
    })

pub returns-clause-asked : goal.returns-clause-asked
returns-clause-asked g c =
    let most : c.renew_frames.new.work.asked ≤ c.args.work.now.asked + sum_by (λ f. touched_among c.args.change.now.before.plan.now f.asked c.args.clusters.now) c.self.inside.frames.items = c.renew_frames.ensures.asked in
    omega (
      arith,
      most,
      named_total c.args.change.now.before.plan.now c.args.clusters.now c.self.inside.frames.items,
      ap (λ (b : BoardData). named_by_frames c.args.change.now.before.plan.now (queued_in b) c.args.clusters.now) c.self.view_is,
    )
