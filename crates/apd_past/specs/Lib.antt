pub mod MaybeNumbers
pub mod Done
pub mod Linked
pub mod History
pub mod Tuples
pub mod Ground
pub mod Follows
