pub mod Making
pub mod Replaying
