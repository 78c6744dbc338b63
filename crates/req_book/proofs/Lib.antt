pub mod ObjectLemmas
pub mod SettingLemmas
pub mod FindLemmas
pub mod LikeLemmas
