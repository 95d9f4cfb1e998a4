-- What crates above may cite by path: rewriting, which no clause of a law can give.
pub use Rattle.cat_cert.proofs.ReadBackLemmas.{parted_line, placed, placed_heads, placed_trees}
pub use Rattle.cat_cert.proofs.OverLemmas.{map_twice, SharedOnes, StandAgain, WrittenOnes}
