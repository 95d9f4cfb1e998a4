-- What crates above may cite by path: rewriting, which no clause of a call can give.
pub use Rattle.cat_calc.proofs.Equations.{reduced_Empty, reduced_Consequence, reduced_Default, reductions}
pub use Rattle.cat_calc.proofs.Equations.{conditions_Empty, conditions_Consequence, conditions_Default}
pub use Rattle.cat_calc.proofs.Equations.{consequences_Empty, consequences_Consequence, consequences_Default}
pub use Rattle.cat_calc.proofs.Equations.{induction}
pub use Rattle.cat_calc.proofs.ReducingLaws.{or_else_none}
pub use Rattle.cat_calc.proofs.CalcTypes.{calculi_end, has_outcome}
