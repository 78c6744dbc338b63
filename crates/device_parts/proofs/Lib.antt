pub mod LeavingLemmas
pub mod FitLemmas
pub mod RaisedLemmas
pub mod QueuedLemmas
pub mod RangingLemmas
pub mod MadeLemmas
pub mod MakesLemmas
pub mod CoverLemmas
