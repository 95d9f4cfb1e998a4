-- Lemmas.
mod DeadLemmas
pub mod DecidesLaws
mod Examples
pub mod HeldLaws
mod KeyLemmas
mod LeafLemmas
mod OpenedLemmas
mod PlainLemmas
mod RefusedLemmas
pub mod SameParts
pub mod StepLemmas
mod TargetsLemmas
mod TextLemmas
-- what crates above may cite by path
pub mod Exported
