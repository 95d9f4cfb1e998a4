pub mod Hanging
pub mod Least
pub mod Tried
pub mod Underway
