-- words of single functions, which no public clause cites
pub mod Instructions
pub mod Names
pub mod ReadRows
pub mod Reading
pub mod Putting
pub mod Endings
pub mod Reads
pub mod Typed
