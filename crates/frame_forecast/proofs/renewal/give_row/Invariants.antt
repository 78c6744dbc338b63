use Rattle.std.proofs.Common.{cond}
use Rattle.ctrl_clusters.specs.Rows.{row_of}
use Rattle.frame_forecast.specs.Sparse.{values_upto}
use Rattle.frame_forecast.proofs.GivenLemmas.{IsGiving}
use Rattle.frame_forecast.proofs.renewal.give_row.Given as goal

-- the members so far have theirs
abbrev pub invariant-loop-index : goal.invariant-loop-index
invariant-loop-index l =
    IsGiving l.values l.initial.frames.items l.frames.items l.place l.members (cond l.is_settled l.row (row_of (values_upto l.values l.initial.frames.items l.place) l.members)) l.index
