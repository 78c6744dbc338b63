use Rattle.frame_forecast.proofs.BoardLemmas.{begun_board}
use Rattle.frame_forecast.proofs.laws.begun_frames.Goals as goal

pub returns-clause-rest : goal.returns-clause-rest
returns-clause-rest c verdicts plan controls q qs board is rest kept = begun_board verdicts plan controls q qs board is rest kept
