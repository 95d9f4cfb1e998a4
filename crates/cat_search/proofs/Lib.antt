mod AskedLemmas
mod CellLemmas
mod Examples
mod LawLemmas
mod SampleLemmas
mod WayLemmas
mod TargetLemmas
mod TreeLemmas
mod UnderwayLemmas
mod ValueLemmas
mod WayAskedLemmas
mod WayExamples
mod FollowingLemmas
mod OnWayLemmas
pub mod Exported
