pub mod Causes
pub mod Deciders
pub mod RunLines
pub mod ReportLines
pub mod DeadReports
pub mod PlainReports
-- what the code keeps on its way: no public clause cites it
pub mod inside
