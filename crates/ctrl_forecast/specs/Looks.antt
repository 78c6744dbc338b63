-- How a row of a board is seen.
use Rattle.ctrl_forecast.specs.declared.board.Forecast.{Forecast}
use Rattle.ctrl_forecast.specs.declared.board.Row.{Row}

-- a row as what its frame will have
abbrev pub seen : Row → Forecast
seen row = record { request = row.request; buffer = row.buffer; values = row.values.now; refused = row.refused.now }
