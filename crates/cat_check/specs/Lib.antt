pub mod Unordered
pub mod Cause
pub mod Outlined
-- what the code keeps on its way: no public clause cites it
pub mod inside
