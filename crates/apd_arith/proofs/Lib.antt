pub mod Integers
pub mod Signs
pub mod Values
pub mod Memoryless
pub mod Found
pub mod Faulting
pub mod Tests
pub mod Instances
