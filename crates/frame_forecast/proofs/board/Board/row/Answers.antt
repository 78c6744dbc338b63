use Rattle.std.proofs.Common.{◌≡◌, ◌∙◌, ◌<◌, ◌≤◌, ◌+◌, ap, sym, length, List, slice_get, Some, None, arith}
use Rattle.std.proofs.lemmas.Option.{slice_get-get_or, slice_get_past}
use Rattle.ctrl_forecast.specs.declared.board.Forecast.{Forecast}
use Rattle.frame_forecast.specs.Boards.{BoardData}
use Rattle.frame_forecast.specs.Seen.{all_seen}
use Rattle.frame_forecast.specs.Sparse.{SparseFrame, no_sparse_frame, values_upto}
use Rattle.frame_forecast.proofs.BoardLemmas.{seen_row, unseen_row}
use Rattle.frame_forecast.proofs.board.Board.row.Goals as goal

pub returns-in-Some : goal.returns-in-Some
returns-in-Some c =
    let found : slice_get c.self.inside.frames.items c.args.place ≡ Some c.in-Some.frame.now =
    ap (λ (fs : List SparseFrame). slice_get fs c.args.place) (sym c.deref.ensures.value)
    ∙ slice_get-get_or c.deref.result.now c.args.place no_sparse_frame c.in-Some.ensures.lookup.3.0
    ∙ ap (λ (f : SparseFrame). Some f) (sym (c.in-Some.ensures.lookup.3.1 no_sparse_frame)) in
    let behind = c.of.ensures ∙ ap (λ (fs : List SparseFrame). values_upto c.args.values.now fs (c.args.place + 1)) c.as_slice.ensures.value in
    (λ i. Some (record { request = c.request.ensures i; buffer = c.buffer.ensures i; values = behind i; refused = c.refused.ensures i }))
    ∙ sym (seen_row c.args.values.now c.self.inside.frames.items c.args.place c.in-Some.frame.now found)
    ∙ ap (λ (b : BoardData). slice_get (all_seen c.args.values.now b.frames) c.args.place) c.self.view_is

pub returns-in-None : goal.returns-in-None
returns-in-None c =
    let none : slice_get c.self.inside.frames.items c.args.place ≡ None =
    slice_get_past c.self.inside.frames.items c.args.place (omega (arith, c.in-None.ensures.lookup.3, ap (λ (fs : List SparseFrame). length fs) c.deref.ensures.value)) in
    sym (unseen_row c.args.values.now c.self.inside.frames.items c.args.place none) ∙ ap (λ (b : BoardData). slice_get (all_seen c.args.values.now b.frames) c.args.place) c.self.view_is
