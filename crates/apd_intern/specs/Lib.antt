pub mod Nodes
pub mod Subterms
pub mod Pending
pub mod Listed
