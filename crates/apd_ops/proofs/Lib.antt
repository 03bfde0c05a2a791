pub mod Entries
pub mod Looked
pub mod Clashes
pub mod Defining
pub mod StandardTable
pub mod Ending
pub mod Tested
