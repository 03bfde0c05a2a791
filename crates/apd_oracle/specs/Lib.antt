pub mod Replies
pub mod Waiting
pub mod Dialogue
