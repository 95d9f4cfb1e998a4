pub mod Equations
pub mod HeightEquations
pub mod Along
pub mod Samples
pub mod ProgramSamples
pub mod Exported
