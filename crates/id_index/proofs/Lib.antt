pub mod EntryLemmas
pub mod PutLemmas
