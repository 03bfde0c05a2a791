pub mod Tied
pub mod Followed
