pub mod Cells
pub mod Packed
pub mod Spots
pub mod Tuples
