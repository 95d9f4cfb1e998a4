pub mod AuditedTables
pub mod Numbered
-- what the code keeps on its way: no public clause cites it
pub mod inside
