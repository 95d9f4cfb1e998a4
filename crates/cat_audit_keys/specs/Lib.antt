pub mod Keys
pub mod Atoms
pub mod Standings
-- what the code keeps on its way: no public clause cites it
pub mod inside
