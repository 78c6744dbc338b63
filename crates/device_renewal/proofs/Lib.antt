pub mod QuietLemmas
pub mod WordLemmas
