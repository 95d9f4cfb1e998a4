pub mod Chains
pub mod Gathered
pub mod Exits
pub mod Views
pub mod LineExits
pub mod LinesGathered
pub mod Sharing
pub mod Exported
