pub mod Added
pub mod Placed
pub mod Seen
