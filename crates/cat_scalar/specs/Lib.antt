-- what scalars are, and what an operator gives on them
pub mod Scalars
