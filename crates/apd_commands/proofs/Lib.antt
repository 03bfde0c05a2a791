pub mod Commanding
pub mod FilterNames
