pub mod Claims
pub mod Given
pub mod Kept
pub mod Lists
pub mod Renumbering
pub mod Replies
pub mod Runs
pub mod Said
