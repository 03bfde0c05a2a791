pub mod Cutting
pub mod Numbers
pub mod Outside
pub mod Splitting
