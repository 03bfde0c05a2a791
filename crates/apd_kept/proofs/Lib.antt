pub mod MoreNames
pub mod Forms
pub mod Clauses
pub mod StatedBack
pub mod Reading
pub mod Law
pub mod Spelled
