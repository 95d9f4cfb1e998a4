pub mod Innermost
pub mod AllThere
