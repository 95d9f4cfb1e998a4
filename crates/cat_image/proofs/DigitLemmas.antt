-- Digits by their places in a text.
use Rattle.std.proofs.Common.{◌≡◌, ℕ, ◌+◌, ◌*◌, ◌-◌, ◌^◌, ◌<◌, ◌≤◌, true, false, List, length, drop, get_or, None}
use Rattle.std.proofs.Common.{refl, arith}
use Rattle.std.specs.Prelude.{nat_lt}
use Rattle.std.specs.Char.{is_ascii_digit}
use Rattle.std.proofs.lemmas.List.{drop_more}
use Rattle.std.proofs.lemmas.Bool.Decides.{nat_tests}
use Rattle.cat_image.specs.inside.Reads.{digits_after}

module _ (text : List ℕ) (i n : ℕ) (inside : i < length text) where
  pub digits_end : is_ascii_digit (get_or text i 0) ≡ false → digits_after (drop i text) n ≡ None
  unfolding digits_after
  digits_end other = rw (drop_more text i 0 inside, other) refl

  pub digits_more : is_ascii_digit (get_or text i 0) ≡ true → n * 10 + (get_or text i 0 - 48) < 2 ^ 32
      → digits_after (drop i text) n ≡ digits_after (drop (i + 1) text) (n * 10 + (get_or text i 0 - 48))
  unfolding digits_after
  digits_more digit low =
      let small : nat_lt (n * 10 + (get_or text i 0 - 48)) (2 ^ 32) ≡ true = grind (arith, nat_tests) in
      rw (drop_more text i 0 inside, digit, small) refl

  pub digits_past : is_ascii_digit (get_or text i 0) ≡ true → 2 ^ 32 ≤ n * 10 + (get_or text i 0 - 48)
      → digits_after (drop i text) n ≡ None
  unfolding digits_after
  digits_past digit high =
      let large : nat_lt (n * 10 + (get_or text i 0 - 48)) (2 ^ 32) ≡ false = grind (arith, nat_tests) in
      rw (drop_more text i 0 inside, digit, large) refl

pub ruleset digits = (digits_end, digits_more, digits_past)
