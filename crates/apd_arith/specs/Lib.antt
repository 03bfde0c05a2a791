pub mod Integers
pub mod Operations
pub mod Value
pub mod Stack
pub mod Builtins
pub mod Truth
pub mod Truths
