pub mod FrameLemmas
mod PlaceLemmas
