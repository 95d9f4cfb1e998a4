-- What crates above may cite by path: rewriting and induction, which no clause of a law can give.
use Rattle.cat_region.proofs.DecisionLaws as laws
use Rattle.cat_region.proofs.AdmitLemmas as admits
use Rattle.cat_region.proofs.TrailLemmas as trails
pub use Rattle.cat_region.proofs.DecisionLaws.{Admits-with_narrowing, IsDecision-decided_at, answer-of_decided_at}
pub use Rattle.cat_region.proofs.DecisionLaws.{decided_at-narrowed}
pub use Rattle.cat_region.proofs.DecisionLaws.{IsRegion-with_narrowing, IsInhabited-of_admits, admits-of_IsInhabited}
pub use Rattle.cat_region.proofs.DecisionLaws.{Admits-point_at}
pub use Rattle.cat_region.proofs.AdmitLemmas.{Admits-by_dimensions, IsEmpty-of_admits_none}
pub use Rattle.cat_region.proofs.ChoiceLaws.{IsPointOf-point_at}
pub use Rattle.cat_region.proofs.TrailLemmas.{narrowings-undone, last_narrowing-more}
pub use Rattle.cat_region.proofs.SideLemmas.{along_dims, along_alike, joined, Ends, ends, at_base}
pub use Rattle.cat_region.proofs.AlikeLemmas.{none_alike, decided_alike, region_alike, admits_alike, inhabited_alike}
pub use Rattle.cat_region.proofs.AlikeLemmas.{region_before, some_before}
pub use Rattle.cat_region.proofs.Tests.{le_is, lt_is, eq_is, and-parts, and-both}
pub use Rattle.cat_region.proofs.LowestLemmas.{reduced_test}
pub use Rattle.cat_region.proofs.ExtentLemmas.{lies, lies-narrowed}

pub ruleset narrowing = (laws.Admits-with_narrowing)

pub ruleset by_dimensions = (admits.Admits-by_dimensions)

pub ruleset decisions = (laws.IsDecision-decided_at)

pub ruleset answers = (laws.answer-of_decided_at)

pub ruleset kept = (laws.decided_at-narrowed)

pub ruleset points = (laws.Admits-point_at)

pub ruleset undone = (trails.narrowings-undone, trails.last_narrowing-more)
