pub mod ListLemmas
pub mod NamingLemmas
pub mod TouchLemmas
pub mod TouchedLemmas
