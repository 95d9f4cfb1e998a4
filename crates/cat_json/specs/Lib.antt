-- what public clauses cite
pub mod Paths
pub mod Reads
pub mod InputsRead
pub mod Names
-- what those are made of
pub mod WholeNumbers
pub mod Numerals
pub mod Scalars
pub mod Keys
pub mod Spans
