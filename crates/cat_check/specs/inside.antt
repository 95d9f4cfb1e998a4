pub mod ByScope
pub mod Calling
pub mod Calls
pub mod Chained
pub mod Differing
pub mod Ordered
pub mod Outlining
pub mod Tabling
