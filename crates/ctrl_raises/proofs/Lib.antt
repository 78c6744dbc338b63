pub mod RaiseLemmas
pub mod RangeLemmas
pub mod WithinLemmas
