pub mod NamedTypes
pub mod Told
pub mod Conditions
pub mod Results
pub mod Rows
pub mod Leaves
pub mod Kept
pub mod Wanted
pub mod Judgings
-- what the code keeps on its way: no public clause cites it
pub mod inside
