pub mod Views
pub mod Durations
