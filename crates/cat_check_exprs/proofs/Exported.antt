-- What crates above may cite by path: rewriting, which no clause of a call can give.
pub use Rattle.cat_check_exprs.proofs.LinesGathered.{gather_off, gather_on, turn_off, turn_on}
