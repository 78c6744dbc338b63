use Rattle.std.proofs.Common.{◌≡◌, ◌∙◌, ◌≤◌, ap, arith, length, slice_get, sym, Some, option_map}
use Rattle.frame_forecast.specs.Seen.{all_seen, seen}
use Rattle.frame_forecast.proofs.BoardLemmas.{long_row}
use Rattle.frame_forecast.proofs.board.Board.is_like_at.Goals as goal

-- each has a value for each that there was before the first frame
pub is_like-requires-clause-same : goal.is_like-requires-clause-same
is_like-requires-clause-same c =
    long_row c.args.values.now c.args.self.now.frames c.args.place (seen c.in-Some-Some.own) (sym c.row.ensures ∙ ap (option_map seen) c.in-Some-Some.is-0)
    ∙ c.requires.same
    ∙ sym (long_row c.args.others.now c.args.other.now.frames c.args.place (seen c.in-Some-Some.row) (sym c.row-2.ensures ∙ ap (option_map seen) c.in-Some-Some.is-1))

pub is_like-requires-clause-few : goal.is_like-requires-clause-few
is_like-requires-clause-few c =
    omega (arith, c.requires.few, long_row c.args.values.now c.args.self.now.frames c.args.place (seen c.in-Some-Some.own) (sym c.row.ensures ∙ ap (option_map seen) c.in-Some-Some.is-0))
