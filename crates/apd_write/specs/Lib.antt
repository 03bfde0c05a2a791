pub mod NameTexts
pub mod Writing
pub mod Pending
