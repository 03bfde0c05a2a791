pub mod Fronts
pub mod Diagnosing
pub mod Single
