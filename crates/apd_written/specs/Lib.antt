pub mod Claims
pub mod Says
pub mod Texts
pub mod Uttered
pub mod Conditions
pub mod Numbers
pub mod Proper
