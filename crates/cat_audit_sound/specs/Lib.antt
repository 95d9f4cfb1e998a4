pub mod Evaluations
pub mod Follows
pub mod Audited
pub mod PointInputs
pub mod Parts
pub mod Shown
pub mod Failing
-- what the code keeps on its way: no public clause cites it
pub mod inside
