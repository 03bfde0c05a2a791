pub mod Account
pub mod Inquiry
pub mod Right
pub mod Telling
