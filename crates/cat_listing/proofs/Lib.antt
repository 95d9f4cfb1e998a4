pub mod TypeTexts
pub mod NextFile
pub mod Parts
