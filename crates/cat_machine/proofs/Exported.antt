-- What crates above may cite by path: what the runs of a program's code tell of its scopes.
pub use Rattle.cat_machine.proofs.Programs.{comes_to, is_given}
