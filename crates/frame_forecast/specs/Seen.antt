-- How what queued frames will have is read off what is kept of them.
use Rattle.std.specs.Prelude.{ℕ, zero, suc, List, [], ◌∷◌, option_map, slice_get, unwrap_or}
use Rattle.ctrl_clusters.specs.Rows.{Values}
use Rattle.frame_forecast.specs.Sparse.{SparseFrame, linked, values_upto}
use Rattle.ctrl_forecast.specs.declared.board.Forecast.{Forecast}
use Rattle.frame_forecast.specs.declared.board.Row.{Row}

-- a row as what its frame will have
abbrev pub seen : Row → Forecast
seen row = record { request = row.request; buffer = row.buffer; values = row.values; refused = row.refused.now }

-- what a frame will have over values
abbrev pub sparse_seen : Values → SparseFrame → Forecast
sparse_seen values frame = record { request = frame.request; buffer = frame.buffer; values = linked frame values; refused = frame.refused }

-- and what all will have, each over what the one before leaves
abbrev pub all_seen : Values → List SparseFrame → List Forecast
all_seen values [] = []
all_seen values (f ∷ fs) = sparse_seen values f ∷ all_seen (linked f values) fs

-- The values before the frame at a place: those before the first, or those that the frame before it has; where there is none, those before the first.
abbrev pub values_before_frame : Values → List Forecast → ℕ → Values
values_before_frame first rows zero = first
values_before_frame first rows (suc last) = unwrap_or (option_map (λ row. row.values) (slice_get rows last)) first
