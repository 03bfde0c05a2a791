pub mod Behind
pub mod Commas
pub mod Grouping
pub mod Instances
pub mod Lasting
pub mod Naming
pub mod ReadTexts
