pub mod Hearing
pub mod Bytes
pub mod Drafting
pub mod Printing
pub mod Heard
pub mod Waiting
