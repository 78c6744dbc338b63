use Rattle.std.proofs.Common.{◌≡◌, ◌∙◌, ◌<◌, ◌≤◌, ◌+◌, ap, drop, length, map, refl, subst, sym, List, ℕ, arith}
use Rattle.std.specs.List.{sum_by}
use Rattle.ctrl_clusters.specs.Moments.{parts, parts_after}
use Rattle.ctrl_forecast.specs.Forecasts.{QueuedData, named_by_frames}
use Rattle.frame_forecast.specs.Boards.{BoardData, IsBoard, IsRoomFor, RoomData, queued_in}
use Rattle.frame_forecast.specs.Sparse.{SparseFrame, queued_sparse, touched_among}
use Rattle.frame_forecast.specs.Renewal.{AreRenewingSame}
use Rattle.frame_forecast.proofs.RenewedBoards.{given_same, named_total, renew_ready, renewed_board}
use Rattle.frame_forecast.proofs.board.Board.renew.Goals as goal

-- the frames are right over the values before the change
pub renew_until-requires-clause-ready : goal.renew_until-requires-clause-ready
renew_until-requires-clause-ready g c =
    let board : BoardData = record { frames = c.self.inside.frames.items; room = c.self.inside.room } in
    subst (AreRenewingSame g.D.Validates.verdict c.args.change.now.before.plan.now c.args.clusters.now c.args.change.now.before.ranges.now c.args.change.now.grabs.now c.args.change.now.values.now c.self.inside.frames.items c.self.inside.frames.items 0 0)
    (sym c.load_before.ensures.values)
    (renew_ready g.D.Validates.verdict c.args.change.now.before.plan.now c.args.clusters.now (parts c.args.change.now.before) (parts_after c.args.change.now) (queued_in c.args.self.now) board c.room.inside.spare.items c.args.change.now.before.planned c.requires.before
    c.requires.after c.requires.clusters (subst (IsBoard g.D.Validates.verdict c.args.change.now.before.plan.now (parts c.args.change.now.before) (queued_in c.args.self.now)) (sym c.self.view_is) c.requires.kept) c.requires.ranges c.requires.values c.requires.grabs
    (ap (λ (r : RoomData). r.spare) c.room.view_is ∙ ap (λ (b : BoardData). b.room.spare) c.self.view_is ∙ c.requires.kept.room.spare))

-- and right over those after it
pub returns-clause-frames : goal.returns-clause-frames
returns-clause-frames g c =
    renewed_board g.D.Validates.verdict c.args.change.now.before.plan.now (parts_after c.args.change.now) c.args.change.now.before.ranges.now (queued_in c.args.self.now) c.self.inside.frames.items
    (record { frames = c.renew_until.new.frames.items; room = record { ranges = c.renew_until.new.ranges; values = length c.renew_until.new.values.items; spare = length c.renew_until.new.spare.items } }) 0 (ap queued_in c.self.view_is) c.renew_until.ensures.frames
    (λ i less within. absurd (omega (arith, less)))
    (λ values. given_same c.args.change.now.before.plan.now c.args.change.now.before.ranges.now c.args.change.now.ranges.now c.args.change.now.values.now values c.args.change.now.before.planned.is_plan c.args.change.now.before.ranged c.requires.ranges)
    (record { ranges = c.renew_until.ensures.ranges; values = c.renew_until.ensures.values; spare = c.renew_until.ensures.spare })

pub returns-clause-asked : goal.returns-clause-asked
returns-clause-asked g c =
    let most : c.renew_until.new.work.asked ≤ c.args.work.now.asked + sum_by (λ f. touched_among c.args.change.now.before.plan.now f.asked c.args.clusters.now) c.self.inside.frames.items = c.renew_until.ensures.asked in
    omega (
      arith,
      most,
      named_total c.args.change.now.before.plan.now c.args.clusters.now c.self.inside.frames.items,
      ap (λ (b : BoardData). named_by_frames c.args.change.now.before.plan.now (queued_in b) c.args.clusters.now) c.self.view_is,
    )
