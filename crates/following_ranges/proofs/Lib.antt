pub mod FollowLemmas
pub mod QuietLemmas
pub mod HandledLemmas
