pub mod Places
pub mod Apart
pub mod Parts
pub mod Packing
