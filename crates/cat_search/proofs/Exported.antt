-- What crates above may cite by path: rewriting, which no clause of a law can give.
pub use Rattle.cat_search.proofs.LawLemmas.{sides_are, same_dims}
pub use Rattle.cat_search.proofs.TargetLemmas.{asked_below, one_of_two}
