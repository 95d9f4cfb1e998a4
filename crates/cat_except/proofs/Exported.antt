-- What crates above may cite by path: the definitions of a target, and of some numbers.
pub use Rattle.cat_except.proofs.Numbers.{target_defs, target_numbers, few_numbers}
pub use Rattle.cat_except.proofs.Grouped.{defs_at_push}
