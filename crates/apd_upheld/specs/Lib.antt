pub mod Alike
pub mod Fair
pub mod Good
