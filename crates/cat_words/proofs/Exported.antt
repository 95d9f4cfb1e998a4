-- What crates above may cite by path.
pub use Rattle.cat_words.proofs.CasesRead.{cases_within}
