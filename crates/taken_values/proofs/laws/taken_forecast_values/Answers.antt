use Rattle.taken_values.proofs.TakenLemmas.{forecast_kinds, forecast_taken}
use Rattle.taken_values.proofs.laws.taken_forecast_values.Goals as goal

pub returns-clause-taken : goal.returns-clause-taken
returns-clause-taken c = forecast_taken

pub returns-clause-kinds : goal.returns-clause-kinds
returns-clause-kinds c = forecast_kinds
