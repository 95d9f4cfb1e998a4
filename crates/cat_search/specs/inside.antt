pub mod Following
pub mod ToCome
pub mod Underway
