pub mod Bare
pub mod Fitting
pub mod Hearing
pub mod Waiting
