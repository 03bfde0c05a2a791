pub mod Forms
pub mod Reading
pub mod Claims
pub mod Parting
pub mod Saying
pub mod Sayable
pub mod Texts
