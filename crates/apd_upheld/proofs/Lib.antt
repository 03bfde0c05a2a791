pub mod Alike
pub mod Findings
pub mod Queries
pub mod Good
pub mod Saying
