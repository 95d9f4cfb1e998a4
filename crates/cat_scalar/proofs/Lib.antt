pub mod Ratios
pub mod Projecting
