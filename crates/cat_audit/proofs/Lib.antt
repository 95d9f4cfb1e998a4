pub mod CalledLemmas
pub mod VerdictLemmas
pub mod TargetLemmas
pub mod SectionLemmas
pub mod UnderwayLemmas
pub mod LineLemmas
pub mod TurnLemmas
pub mod CompleteLemmas
mod CauseLemmas
mod FindingExamples
pub mod FindingLemmas
pub mod HangingLemmas
mod LeastLemmas
mod TargetLineLemmas
pub mod SearchedLemmas
mod TargetThere
pub mod TriedLemmas
mod TermValues
pub mod Lists
pub mod BackLemmas
pub mod PlainAlone
pub mod FreeTables
pub mod PlainLines
pub mod Verdicts
pub mod PlainSections
pub mod Sample
pub mod PlainExamples
