use Rattle.following_ranges.proofs.QuietLemmas.{quiet}
use Rattle.following_ranges.proofs.laws.quiet_asks.Goals as goal

pub returns : goal.returns
returns c = λ verdicts followers old new owed owed_then seat ask answer asked does unchanged. quiet verdicts followers old new owed owed_then seat ask answer asked does unchanged
