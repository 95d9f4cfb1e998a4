-- A word that begins with a digit is no kind of line.
use Rattle.std.proofs.Common.{◌≡◌, ℕ, ◌≤◌, true, [], ◌∷◌, None, arith}
use Rattle.std.specs.Char.{is_ascii_digit}
use Rattle.std.proofs.lemmas.Bool.Decides.{nat_tests}
use Rattle.cat_image.specs.Words.{Text}
use Rattle.cat_image.specs.inside.Names.{begins_with_digit, look_up, row_kinds}
use Rattle.cat_image.proofs.WrittenLemmas.{no_kind_of}

a_digit : (b : ℕ) → is_ascii_digit b ≡ true → (48 ≤ b) × (b ≤ 57)
a_digit b h = (grind (arith, nat_tests), grind (arith, nat_tests))

pub no_kind_begun : (word : Text) → begins_with_digit word ≡ true → look_up row_kinds word ≡ None
no_kind_begun [] begun = absurd (cc)
no_kind_begun (b ∷ bs) begun = no_kind_of b bs (a_digit b begun)
