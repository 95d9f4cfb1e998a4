-- which trees are accepted, with their programs, and what stands against the others
pub mod Accepted
pub mod Decided
-- what expressions mean
pub mod Found
pub mod Lists
pub mod Types
pub mod Rows
pub mod Lookup
pub mod Naming
pub mod Operations
pub mod Forms
pub mod Parts
pub mod Compound
pub mod Meaning
-- what declarations and blocks mean
pub mod Written
pub mod Declarations
pub mod Aims
pub mod Definitions
pub mod Lines
pub mod Bodies
-- what stands against a tree beside expressions
pub mod Limits
pub mod Unknown
pub mod DeclarationFaults
pub mod NameFaults
pub mod Heights
pub mod ScopeWords
pub mod Cycles
-- what the laws say
pub mod Symbols
pub mod TypedNames
pub mod TypedMeanings
