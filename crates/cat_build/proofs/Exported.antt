-- What crates above may cite by path: the laws on which it rests that pieces have one program, and that parts of a
-- declaration keep their names.
pub use Rattle.cat_build.proofs.Distinct.{named_alike, field_name, case_name}
pub use Rattle.cat_build.proofs.OneProgram.{IsOneTree, IsOneProgram, HaveNoProgram}
