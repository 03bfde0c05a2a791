pub mod Ground
pub mod Sources
pub mod Proving
pub mod Deriving
pub mod Both
pub mod Example
