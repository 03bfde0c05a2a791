pub mod Commands
pub mod Filters
pub mod Obeying
