-- What crates above may cite by path: valid and tame code is refused for none of its instructions.
pub use Rattle.cat_verify.proofs.ValidCode.{numbered, ending, shaped}
