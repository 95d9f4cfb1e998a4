-- what public clauses cite
pub mod Told
pub mod OfParts
pub mod Refused
-- what stands against code
pub mod WrongCode
pub mod inside
