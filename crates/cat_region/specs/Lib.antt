pub mod Points
pub mod Regions
pub mod Extents
pub mod Decided
pub mod Chosen
pub mod Choices
pub mod Sides
-- what the code keeps on its way: no public clause cites it
pub mod inside
