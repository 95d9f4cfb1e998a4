-- What crates above may cite by path: rewriting and induction, which no clause of a law can give.
pub use Rattle.cat_num.proofs.Fracs.{IsReduced-lowest, lowest-coprime, lowest-positive, lowest_is, lowest_parts}
pub use Rattle.cat_num.proofs.Fracs.{ratio-fits, ratio-large_den, ratio-large_num, ratio-zero}
pub use Rattle.cat_num.proofs.Digits.{length-filled, number_after-append}
pub use Rattle.cat_num.proofs.Numerals.{value_reduced}
pub use Rattle.cat_num.proofs.Gcd.{gcd-mod, gcd-zero, gcd_is, positive_factors}
pub use Rattle.cat_num.proofs.Signs.{signed_parts, signed-product, unsigned_abs-signed}
pub use Rattle.cat_num.proofs.Texts.{places_from-start}
pub use Rattle.cat_num.proofs.TextLaws.{exact_quotient, ratio_is, signed_decimal_is, units_are, units_equal}
pub use Rattle.cat_num.proofs.Rounds.{Fits-rounded}
