pub mod Aimed
pub mod Saying
pub mod Sharing
-- what the code keeps on its way: no public clause cites it
pub mod inside
