pub mod Told
pub mod Truths
pub mod Pairs
pub mod Statements
pub mod Files
pub mod Steps
pub mod Scripts
