mod WellFormedParts
mod WellFormedCalls
mod WellFormedNested
mod WellFormedChain
mod ProgramSamples
mod TypeSamples
mod IllFormed
pub mod TargetLaws
pub mod CalledLaws
pub mod Cycles
pub mod ForestLaws
pub mod JudgeLaws
pub mod Results
pub mod Endings
pub mod Fits
pub mod FlatTypes
pub mod Comparisons
pub mod OperatorTypes
pub mod ListTypes
pub mod NamedParts
pub mod FormTypes
pub mod ExprForms
pub mod ExprTypes
pub mod Trails
pub mod TargetTypes
pub mod OrderFacts
pub mod InputTypes
pub mod ScopeParts
pub mod JudgedTypes
pub mod DefsJudged
pub mod PlacedRuns
pub mod ScopeTypes
pub mod RunEntries
pub mod TargetsListed
pub mod ScopeRuns
pub mod RunTypes
pub mod OutcomeTypes
pub mod GivenValues
pub mod PartTypes
pub mod RunParts
pub mod ByParts
pub mod Rests
pub mod JudgingSame
pub mod FunctionLaws
pub mod ScopeSame
pub mod ScopeLaws
pub mod CloseResults
pub mod Alike
pub mod LeafTests
pub mod Trees
pub mod DecidedLaws
mod SoundSamples
pub mod HeldLaws
pub mod GroupLaws
pub mod RootNumbers
pub mod OneType
pub mod LowTypes
pub mod Exported
mod LogParts
mod ScopeLogs
mod LogCounts
mod LogLaws
mod LawSamples
mod PremiseSamples
