pub mod Mixing
pub mod Places
pub mod Keys
pub mod Positions
