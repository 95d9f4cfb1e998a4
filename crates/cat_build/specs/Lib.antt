-- which sources are accepted, and what they are built into
pub mod Accepted
pub mod Built
-- what stands where one is refused
pub mod Causes
pub mod Codes
-- what the code keeps on its way: no public clause cites it
pub mod inside
