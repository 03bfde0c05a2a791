pub mod Insides
pub mod Admitting
pub mod Listed
