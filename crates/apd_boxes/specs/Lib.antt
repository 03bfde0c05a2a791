pub mod Owned
pub mod Ports
pub mod Facts
pub mod Few
pub mod Boxes
pub mod Packed
pub mod Several
