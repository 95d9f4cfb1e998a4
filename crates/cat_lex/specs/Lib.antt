-- what public clauses cite
pub mod Lexes
pub mod Gaps
pub mod Positions
pub mod Forms
pub mod Values
pub mod Words
-- what the code keeps on its way: no public clause cites it
pub mod inside
