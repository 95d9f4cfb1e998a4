pub mod Accumulation
pub mod Limits
pub mod Spells
pub mod Grammar
pub mod Rows
pub mod Operators
pub mod Literals
pub mod Wording
pub mod Phrase
pub mod Joined
pub mod Declarations
pub mod Uses
pub mod Programs
-- what the code keeps on its way: no public clause cites it
pub mod inside
