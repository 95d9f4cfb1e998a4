pub mod StartLemmas
pub mod PlacingLemmas
pub mod LogLemmas
mod Examples
mod Sample
