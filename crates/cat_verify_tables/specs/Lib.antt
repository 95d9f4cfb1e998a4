-- what public clauses cite
pub mod TableWords
pub mod WrongTables
-- what stands against tables
pub mod TypeWords
pub mod RowFronts
pub mod WrongParts
pub mod inside
