pub mod Classes
pub mod Meetings
pub mod Nodes
pub mod Numbering
pub mod Sizing
pub mod Walking
pub mod Writing
