pub mod Declarations
-- what the code keeps on its way: no public clause cites it
pub mod inside
