pub mod KindLemmas
pub mod RowLemmas
pub mod RangeLemmas
pub mod TakenLemmas
pub mod ArrayLemmas
