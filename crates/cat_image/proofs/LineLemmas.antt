-- The first line feed, as it is found.
use Rattle.std.proofs.Common.{◌≡◌, ℕ, true, length, get_or, Some, None, arith}
use Rattle.std.specs.List.{prefix_len}
use Rattle.std.proofs.lemmas.Bool.Decides.{nat_tests}
use Rattle.std.proofs.lemmas.List.Sums.{prefix_len_is}
use Rattle.memchr.specs.Find.{IsFirstByte, is_byte}
use Rattle.cat_image.specs.Words.{Text}
use Rattle.cat_image.specs.inside.Reads.{is_other}

another : (byte b : ℕ) → (is_byte byte b ≡ true → ⊥) → is_other byte b ≡ true
another byte b other = grind (arith, nat_tests)

-- where it is none, each byte is another
pub no_first : (byte : ℕ) (text : Text) → IsFirstByte (is_byte byte) text None
    → prefix_len (is_other byte) text ≡ length text
no_first byte text none =
    prefix_len_is (is_other byte) text (length text) 0 (omega arith)
    (λ k within. another byte (get_or text k 0) (none k (omega arith) within)) (λ past. absurd (omega (arith, past)))

-- where it is one, the bytes in front are others
pub first_at : (byte : ℕ) (text : Text) (n : ℕ) → IsFirstByte (is_byte byte) text (Some n)
    → prefix_len (is_other byte) text ≡ n
first_at byte text n is =
    let high = is.0.high in
    let here = is.1 in
    prefix_len_is (is_other byte) text n 0 (omega (arith, high))
    (λ k within. another byte (get_or text k 0) (is.0.before k (omega arith) within))
    (λ inside. grind (arith, nat_tests, here))
