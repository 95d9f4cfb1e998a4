pub mod Chains
pub mod Conditions
pub mod Heads
