-- What the bytes of words pass: a test that each byte from 128 on passes, and each ASCII character that may stand in
-- a word.
use Rattle.std.proofs.Common.{◌≡◌, ℕ, ◌/◌, ◌%◌, ◌<◌, ◌≤◌, ◌+◌, Bool, true, false, cond, ltb, List, [], ◌∷◌, refl}
use Rattle.std.proofs.Common.{ap, ◌∙◌, arith}
use Rattle.std.specs.Char.{encode_utf8}
use Rattle.std.specs.List.{list_all}
use Rattle.std.specs.Str.{encode_utf8_all}
use Rattle.std.proofs.lemmas.Bool.{and_parts, and_from}
use Rattle.std.proofs.lemmas.Bool.Decides.{nat_tests}
use Rattle.std.proofs.lemmas.List.Folds.{list_all-append}
use Rattle.std.proofs.lemmas.Str.{encode_ascii}
use Rattle.std.proofs.Math.Utf8.{encode}
use Rattle.unicode_ident.specs.Ident.{is_xid_continue}

module _ (test : ℕ → Bool) (high : (b : ℕ) → 128 ≤ b → test b ≡ true)
    (low : (c : ℕ) → ltb c 128 ≡ true → is_xid_continue c ≡ true → test c ≡ true) where
  next_high : (n : ℕ) → test (128 + n % 64) ≡ true
  next_high n = high (128 + n % 64) (omega arith)

  high_bytes : (c : ℕ) → ltb c 128 ≡ false → list_all test (encode_utf8 c) ≡ true
  unfolding encode
  high_bytes c not_low = rw not_low (by (ltb c 2048) (ltb c 65536))
    where
      by : (b d : Bool)
          → list_all test (cond b ((192 + c / 64) ∷ (128 + c % 64) ∷ [])
          (cond d ((224 + c / 4096) ∷ (128 + (c / 64) % 64) ∷ (128 + c % 64) ∷ [])
          ((240 + c / 262144) ∷ (128 + (c / 4096) % 64) ∷ (128 + (c / 64) % 64) ∷ (128 + c % 64) ∷ []))) ≡ true
      by true d = rw (high (192 + c / 64) (omega arith), next_high c) refl
      by false true = rw (high (224 + c / 4096) (omega arith), next_high (c / 64), next_high c) refl
      by false false =
          rw (high (240 + c / 262144) (omega arith), next_high (c / 4096), next_high (c / 64), next_high c) refl

  char_bytes : (c : ℕ) → is_xid_continue c ≡ true → list_all test (encode_utf8 c) ≡ true
  char_bytes c continues = by (ltb c 128) refl
    where
      by : (b : Bool) → ltb c 128 ≡ b → list_all test (encode_utf8 c) ≡ true
      by true small =
          let below : c < 128 = grind (arith, nat_tests) in
          ap (list_all test) (encode_ascii c below) ∙ and_from (test c) true (low c small continues) refl
      by false not_low = high_bytes c not_low

  pub chars_bytes : (cs : List ℕ) → list_all is_xid_continue cs ≡ true → list_all test (encode_utf8_all cs) ≡ true
  chars_bytes [] continue = refl
  chars_bytes (c ∷ cs) continue =
      let parts = and_parts (is_xid_continue c) (list_all is_xid_continue cs) continue in
      list_all-append test (encode_utf8 c) (encode_utf8_all cs)
      ∙ and_from (list_all test (encode_utf8 c)) (list_all test (encode_utf8_all cs)) (char_bytes c parts.0)
      (chars_bytes cs parts.1)
