pub mod DeadTexts
pub mod Winners
pub mod NeverDecides
pub mod Checked
pub mod Leaves
-- what the code keeps on its way: no public clause cites it
pub mod inside
