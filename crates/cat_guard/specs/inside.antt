pub mod Counting
pub mod Found
pub mod Joining
pub mod Past
pub mod Pruned
pub mod Telling
pub mod Whole
