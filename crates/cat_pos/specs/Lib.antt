pub mod Position
pub mod Bytes
pub mod Limits
pub mod Readable
-- how a type may hold lists and boxes of itself, and shared values
pub mod formers
