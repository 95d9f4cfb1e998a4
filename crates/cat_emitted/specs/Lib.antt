pub mod Spelled
pub mod Emitted
pub mod Accepted
