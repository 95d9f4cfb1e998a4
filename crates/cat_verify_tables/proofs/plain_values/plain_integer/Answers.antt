use Rattle.std.proofs.Common.{◌≡◌, ◌<◌, ◌^◌, ℕ, pos, w64, to_z, arith}
use Rattle.std.proofs.lemmas.Int.{to_z_pos}
use Rattle.cat_verify_tables.proofs.PlainValues.{number_value}
use Rattle.cat_verify_tables.proofs.plain_values.plain_integer.Goals as goal

whole : (n : ℕ) → n < 2 ^ 32 → to_z w64 n ≡ pos n
whole n low = let small : n < 2 ^ 63 = omega (arith, low) in to_z_pos w64 n small

pub returns : goal.returns
returns c = λ ds.
    let n = c.in_ok-number.number in
    let low : n < 2 ^ 32 = c.in_ok-number.ensures.1 in
    rw (c.in_ok-whole.ensures.value, whole n low, c.in_ok-number.ensures.0) (number_value n low ds)
