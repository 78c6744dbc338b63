pub mod RowLemmas
pub mod FormLemmas
