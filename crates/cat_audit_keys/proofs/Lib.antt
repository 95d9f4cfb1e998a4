pub mod KeyNumbers
pub mod KeyForms
pub mod KeyLaws
pub mod TermLaws
pub mod KeyEquations
pub mod CutLaws
pub mod Exported
