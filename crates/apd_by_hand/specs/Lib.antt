pub mod Listed
pub mod Made
pub mod Newest
pub mod Notes
