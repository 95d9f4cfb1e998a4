-- how typed programs end
pub mod Endings
pub mod Settled
-- the types that expressions may have
pub mod LowTypes
-- typed parts
pub mod Parts
-- what an expression rests on
pub mod Rests
-- what is given
pub mod Given
-- groups and conflicts
pub mod Grouped
-- of what called scopes come to a stop
pub mod Stopped
-- what stands in a log
pub mod Logs
-- roots by their numbers
pub mod Roots
