pub mod Counting
pub mod Noticed
