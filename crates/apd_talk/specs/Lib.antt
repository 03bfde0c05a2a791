pub mod Utterance
pub mod Talk
pub mod Awaiting
pub mod Outcome
pub mod Speech
pub mod Moment
