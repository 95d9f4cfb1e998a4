pub mod Order
pub mod Computed
pub mod Cycle
pub mod Cause
-- what the code keeps on its way: no public clause cites it
pub mod inside
