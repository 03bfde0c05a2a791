pub mod Instances
pub mod Placing
pub mod Skipping
