pub mod Sound
pub mod FollowedLemmas
