pub mod Nodes
pub mod Programs
