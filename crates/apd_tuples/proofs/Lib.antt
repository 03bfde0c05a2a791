pub mod Laid
pub mod Spanning
pub mod Unpacking
pub mod Standing
pub mod Alone
pub mod Predicates
pub mod Grounds
