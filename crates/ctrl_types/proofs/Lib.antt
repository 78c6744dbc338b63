pub mod PairLemmas
pub mod ValueLemmas
pub mod ByteLemmas
