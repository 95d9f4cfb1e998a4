pub mod RunLaws
pub mod PartEquations
pub mod Equations
pub mod Induction
pub mod Namings
pub mod Samples
mod Appearances
pub mod Placings
mod ExpectedSamples
mod Meanings
mod Contexts
mod ForestSamples
mod DeciderSamples
pub mod BareProgram
mod WrongMeanings
mod Forms
mod FunctionSamples
mod OperatorSamples
pub mod Exported
mod ListLemmas
