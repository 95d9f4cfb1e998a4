pub mod Table
pub mod CaseTable
pub mod Tables
pub mod Shown
pub mod Tabled
-- what the code keeps on its way: no public clause cites it
pub mod inside
