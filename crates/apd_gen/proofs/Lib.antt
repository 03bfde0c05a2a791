pub mod Halving
pub mod Lines
pub mod Sizes
