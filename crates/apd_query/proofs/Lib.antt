pub mod Printing
pub mod Passing
pub mod Running
