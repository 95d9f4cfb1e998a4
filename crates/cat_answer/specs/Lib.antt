-- what public clauses cite
pub mod Writes
pub mod ReadBack
pub mod Answer
-- what inner clauses cite
pub mod WrittenParts
