pub mod MessageLemmas
pub mod ReplyLemmas
