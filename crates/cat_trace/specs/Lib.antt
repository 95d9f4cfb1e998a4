-- what the public clause cites
pub mod Traces
pub mod Over
-- what the code keeps on its way: no public clause cites it
pub mod inside
