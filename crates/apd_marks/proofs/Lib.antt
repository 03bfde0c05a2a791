pub mod Noting
pub mod Distinct
pub mod Walking
