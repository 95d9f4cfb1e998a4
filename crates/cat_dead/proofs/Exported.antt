-- What crates above may cite by path: the words of the laws, and rewriting, which no clause of a law can give.
unfoldable pub use Rattle.cat_dead.proofs.HeldLaws.{NeverHeldIn}
unfoldable pub use Rattle.cat_dead.proofs.DecidesLaws.{SameElsewhere}
pub use Rattle.cat_dead.proofs.HeldLaws.{same_self, some_same}
pub use Rattle.cat_dead.proofs.SameParts.{same_is, that_is, that_self}
pub use Rattle.cat_dead.proofs.StepLemmas.{one_there, rest_there}
