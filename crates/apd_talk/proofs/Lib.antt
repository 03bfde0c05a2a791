pub mod Counting
pub mod Uttering
pub mod Talking
pub mod Awaiting
pub mod Answering
pub mod Speaking
