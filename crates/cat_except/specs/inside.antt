pub mod Keys
pub mod Listing
pub mod Grouping
pub mod Finding
pub mod Linking
pub mod Chains
pub mod Linked
