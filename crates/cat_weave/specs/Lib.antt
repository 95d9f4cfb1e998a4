pub mod Woven
pub mod Lines
pub mod Kinds
pub mod Gathered
pub mod Causes
-- what the code keeps on its way: no public clause cites it
pub mod inside
