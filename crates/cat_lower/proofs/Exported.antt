-- What crates above may cite by path: that the code of a calculus runs what the calculus runs, and stands in its files.
pub use Rattle.cat_lower.proofs.Whole.{lowered_gives}
pub use Rattle.cat_lower.proofs.CodeFiles.{tables_fit}
