pub mod Operators
pub mod Table
pub mod Ending
pub mod Standard
pub mod Definition
