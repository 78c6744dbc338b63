use Rattle.std.proofs.Common.{◌≡◌, ◌∙◌, ◌<◌, ◌≤◌, ◌+◌, ap, drop, length, map, refl, subst, sym, List, ℕ, arith}
use Rattle.std.specs.List.{All, remove, sum_by}
use Rattle.std.proofs.lemmas.List.{get_or_default}
use Rattle.ctrl_clusters.specs.Following.{reached_clusters}
use Rattle.ctrl_clusters.specs.Moments.{parts}
use Rattle.ctrl_forecast.specs.Boards.{asked_at, named_clusters}
use Rattle.ctrl_forecast.specs.Forecasts.{QueuedData, named_by_frames}
use Rattle.frame_forecast.specs.Boards.{BoardData, IsBoard, queued_in}
use Rattle.frame_forecast.specs.Renewal.{AreRenewed, AreRenewingBehind}
use Rattle.frame_forecast.specs.Sparse.{SparseFrame, no_sparse_frame, sparse_at, touched_among}
use Rattle.frame_forecast.proofs.BoardLemmas.{kept_reach}
use Rattle.frame_forecast.proofs.RenewedBoards.{remove_ready, removed_asked, removed_board}
use Rattle.frame_forecast.proofs.board.Board.remove.Goals as goal

-- what the frame could change are clusters of the plan
pub renew_behind-requires-clause-known : goal.renew_behind-requires-clause-known
renew_behind-requires-clause-known g c =
    let frames : List SparseFrame = c.self.inside.frames.items in
    let there : c.args.place < length frames = omega (arith, c.requires.place, ap (λ (b : BoardData). length b.frames) c.self.view_is) in
    let own : c.remove-removed.result ≡ sparse_at frames c.args.place = c.remove-removed.ensures.value ∙ get_or_default frames c.args.place c.remove-removed.result no_sparse_frame there in
    let kept : IsBoard g.D.Validates.verdict c.args.at.now.plan.now (parts c.args.at.now) (queued_in c.args.self.now) (record { frames = frames; room = c.self.inside.room }) =
    subst (IsBoard g.D.Validates.verdict c.args.at.now.plan.now (parts c.args.at.now) (queued_in c.args.self.now)) (sym c.self.view_is) c.requires.kept in
    subst (λ (f : SparseFrame). All (λ k. k < length c.args.at.now.plan.now.clusters) f.reached) (sym own) (kept_reach c.args.at.now.plan.now (sparse_at frames c.args.place) c.args.at.now.planned (kept.kept c.args.place there)).known

-- those behind it are right over what it left
pub renew_behind-requires-clause-ready : goal.renew_behind-requires-clause-ready
renew_behind-requires-clause-ready g c =
    let frames : List SparseFrame = c.self.inside.frames.items in
    let board : BoardData = record { frames = frames; room = c.self.inside.room } in
    let there : c.args.place < length frames = omega (arith, c.requires.place, ap (λ (b : BoardData). length b.frames) c.self.view_is) in
    let own : c.remove-removed.result ≡ sparse_at frames c.args.place = c.remove-removed.ensures.value ∙ get_or_default frames c.args.place c.remove-removed.result no_sparse_frame there in
    subst (λ (f : SparseFrame). AreRenewingBehind g.D.Validates.verdict c.args.at.now.plan.now f c.args.at.now.ranges.now c.args.at.now.grabs.now c.args.at.now.values.now c.remove-removed.new.self.items c.args.place) (sym own)
    (subst (λ (l : List SparseFrame). AreRenewingBehind g.D.Validates.verdict c.args.at.now.plan.now (sparse_at frames c.args.place) c.args.at.now.ranges.now c.args.at.now.grabs.now c.args.at.now.values.now l c.args.place) (sym c.remove-removed.ensures.items)
    (remove_ready g.D.Validates.verdict c.args.at.now.plan.now (parts c.args.at.now) (queued_in c.args.self.now) board c.args.place c.args.at.now.planned c.requires.rest
    (subst (IsBoard g.D.Validates.verdict c.args.at.now.plan.now (parts c.args.at.now) (queued_in c.args.self.now)) (sym c.self.view_is) c.requires.kept) there))

pub returns-clause-frames : goal.returns-clause-frames
returns-clause-frames g c =
    removed_board g.D.Validates.verdict c.args.at.now.plan.now (parts c.args.at.now) c.args.self.now (record { frames = c.renew_behind.new.frames.items; room = c.renew_behind.new.room }) c.args.place c.args.at.now.planned c.requires.rest c.requires.kept c.requires.place
    (subst (λ (l : List SparseFrame). AreRenewed g.D.Validates.verdict c.args.at.now.plan.now c.args.at.now.ranges.now c.args.at.now.grabs.now c.args.at.now.values.now l c.renew_behind.new.frames.items c.args.place)
    (c.remove-removed.ensures.items ∙ ap (λ (b : BoardData). remove b.frames c.args.place) c.self.view_is) c.renew_behind.ensures.frames) c.renew_behind.ensures.room

pub returns-clause-asked : goal.returns-clause-asked
returns-clause-asked g c =
    let frames : List SparseFrame = c.self.inside.frames.items in
    let there : c.args.place < length frames = omega (arith, c.requires.place, ap (λ (b : BoardData). length b.frames) c.self.view_is) in
    let own : c.remove-removed.result ≡ sparse_at frames c.args.place = c.remove-removed.ensures.value ∙ get_or_default frames c.args.place c.remove-removed.result no_sparse_frame there in
    let kept : IsBoard g.D.Validates.verdict c.args.at.now.plan.now (parts c.args.at.now) (queued_in c.args.self.now) (record { frames = frames; room = c.self.inside.room }) =
    subst (IsBoard g.D.Validates.verdict c.args.at.now.plan.now (parts c.args.at.now) (queued_in c.args.self.now)) (sym c.self.view_is) c.requires.kept in
    omega (
      arith,
      c.renew_behind.ensures.asked,
      removed_asked c.args.at.now.plan.now frames c.remove-removed.new.self.items c.remove-removed.result c.args.place there own c.remove-removed.ensures.items (kept.kept c.args.place there),
      ap (λ (b : BoardData). named_by_frames c.args.at.now.plan.now (drop (c.args.place + 1) (queued_in b)) (reached_clusters c.args.at.now.plan.now (named_clusters c.args.at.now.plan.now (asked_at (queued_in b) c.args.place)))) c.self.view_is,
    )
