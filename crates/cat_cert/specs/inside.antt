pub mod Atoms
pub mod Checkable
pub mod LineForms
pub mod Outcomes
pub mod States
pub mod Steps
