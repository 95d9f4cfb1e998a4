pub mod Add
pub mod Calendar
pub mod Span
pub mod Text
