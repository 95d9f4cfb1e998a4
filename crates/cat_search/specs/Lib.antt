pub mod Searched
pub mod Parted
pub mod Cells
pub mod Ways
pub mod OnWays
-- what the code keeps on its way: no public clause cites it
pub mod inside
