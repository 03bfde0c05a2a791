pub mod Checked
pub mod Right
pub mod Steps
