pub mod LeafPlaces
pub mod Coverage
pub mod Walkable
pub mod Sizes
pub mod Sharing
-- what the code keeps on its way: no public clause cites it
pub mod inside
