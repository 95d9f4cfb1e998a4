pub mod Here
pub mod Nodes
pub mod OneTable
pub mod Walking
