pub mod Shared
pub mod Attempts
pub mod Searched
pub mod Rules
