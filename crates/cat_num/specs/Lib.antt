-- what public clauses cite
pub mod Whole
pub mod Frac
pub mod Numerals
pub mod Rounding
pub mod Text
pub mod Laws
pub mod Reading
