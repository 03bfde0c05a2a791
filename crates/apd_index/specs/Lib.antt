pub mod Retrieval
pub mod Subterms
pub mod Chains
pub mod Columns
pub mod Nodes
pub mod Table
pub mod Spots
