pub mod Counts
pub mod Fronts
pub mod Theorems
pub mod Trails
pub mod Stages
pub mod Endings
pub mod Apart
mod Examples
pub mod Exported
