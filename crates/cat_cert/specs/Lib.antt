pub mod Uncovered
pub mod Checked
pub mod Lines
pub mod Certified
pub mod Texts
pub mod Certifiable
pub mod Fronts
pub mod Causes
pub mod Heights
pub mod ReadTrees
pub mod ScopeTables
-- what the code keeps on its way: no public clause cites it
pub mod inside
