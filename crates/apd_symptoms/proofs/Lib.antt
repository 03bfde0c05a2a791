pub mod Exits
pub mod Answered
