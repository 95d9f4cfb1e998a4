pub mod Counted
pub mod Distinct
pub mod Coded
pub mod FrontSteps
pub mod ForestSteps
mod Examples
pub mod OneProgram
pub mod Exported
