pub mod Chains
pub mod Marks
pub mod Searching
pub mod Wanted
