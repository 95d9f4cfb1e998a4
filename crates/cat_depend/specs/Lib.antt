pub mod CycleWays
pub mod Types
pub mod Causes
pub mod Past
pub mod Listed
pub mod Reached
-- what the code keeps on its way: no public clause cites it
pub mod inside
