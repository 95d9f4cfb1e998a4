pub mod Called
pub mod Sections
pub mod Reports
pub mod Complete
pub mod Findings
pub mod Hanging
pub mod Lines
pub mod Causes
pub mod ReportLines
pub mod ReportTexts
pub mod RunsAgain
pub mod Plain
pub mod Decided
-- what the code keeps on its way: no public clause cites it
pub mod inside
