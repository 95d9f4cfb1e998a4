pub mod Equations
pub mod DependencyEquations
pub mod Induction
pub mod Inversions
pub mod DefaultEquations
pub mod Descending
pub mod DefaultsTyped
pub mod HeightLaws
pub mod SoundLaws
pub mod Examples
pub mod HeightExamples
mod Levels
mod Rounds
mod Highest
pub mod Exported
