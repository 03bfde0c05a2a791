pub mod NameLaws
pub mod Frames
pub mod Opened
pub mod Closed
pub mod Standing
pub mod MoreNames
