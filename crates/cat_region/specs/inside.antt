pub mod Trails
pub mod Parts
pub mod Undone
