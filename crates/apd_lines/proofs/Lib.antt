pub mod Lined
pub mod Growing
pub mod OneLine
pub mod Named
