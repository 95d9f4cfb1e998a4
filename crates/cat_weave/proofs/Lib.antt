pub mod LineLemmas
pub mod SegmentLemmas
pub mod WithinLemmas
mod Examples
pub mod WorklistLemmas
pub mod GatherLemmas
pub mod BoundLemmas
pub mod SameLemmas
pub mod StopLemmas
pub mod ToldLemmas
mod GatherExamples
