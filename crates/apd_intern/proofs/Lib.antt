pub mod Lists
pub mod Linked
pub mod Decoding
pub mod Placing
pub mod Subterms
pub mod Spelled
pub mod Listed
