pub mod Symptoms
pub mod Unanswered
pub mod Chains
