-- What crates above may cite by path: rewriting, which no clause of a call can give.
pub use Rattle.cat_depend.proofs.Members.{all_have, apart, differ_first, differ_rest, in_both, in_cons, in_front}
pub use Rattle.cat_depend.proofs.Members.{in_here, in_later, in_of_listed, one_or_other}
