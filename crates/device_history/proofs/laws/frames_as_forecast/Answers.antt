use Rattle.device_history.proofs.StretchLemmas.{rows_queued, rows_stand, frame_request, frame_values, frame_answered}
use Rattle.device_history.proofs.laws.frames_as_forecast.Goals as goal

pub returns-clause-rows : goal.returns-clause-rows
returns-clause-rows c = rows_queued

pub returns-clause-stand : goal.returns-clause-stand
returns-clause-stand c = rows_stand

pub returns-clause-request : goal.returns-clause-request
returns-clause-request c = frame_request

pub returns-clause-values : goal.returns-clause-values
returns-clause-values c = frame_values

pub returns-clause-reply : goal.returns-clause-reply
returns-clause-reply c = frame_answered
