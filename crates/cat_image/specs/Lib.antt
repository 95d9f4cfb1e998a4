-- what public clauses cite
pub mod Image
pub mod Refused
pub mod Listed
-- what stands in a line
pub mod Words
pub mod InstructionWords
pub mod Rows
pub mod inside
