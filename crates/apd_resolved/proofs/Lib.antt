pub mod Counts
pub mod Measuring
pub mod Noticing
pub mod Search
