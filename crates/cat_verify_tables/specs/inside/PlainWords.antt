-- Texts that are plainly values: decimals of 32 bits, and the words of truths.
use Rattle.std.specs.Prelude.{◌≡◌, ℕ, ◌<◌, ◌^◌, nat_le, ◌&&◌, Bool, true, false, IsTrue, [], ◌∷◌, codes, decimal}
use Rattle.std.specs.Prelude.{Ok}
use Rattle.std.specs.Char.{is_ascii_digit}
use Rattle.cat_value.specs.declared.ty.Ty.{Ty}
use Rattle.cat_value.specs.declared.value.Value.{Value}
use Rattle.cat_value.specs.declared.decls.Decls.{Decls}
use Rattle.cat_value.specs.Typing.{has_type}
use Rattle.cat_json.specs.InputsRead.{value_read}
use Rattle.cat_image.specs.Words.{Text}

-- a digit stands first, which is no zero where more stands behind it
abbrev pub begins_plainly : Text → Bool
begins_plainly [] = false
begins_plainly (b ∷ []) = is_ascii_digit b
begins_plainly (b ∷ c ∷ bs) = nat_le 49 b && nat_le b 57

-- the decimals of a number of 32 bits
abbrev pub IsPlainNumber : Text → ℕ → Type 0
IsPlainNumber text n = (text ≡ decimal n) × (n < 2 ^ 32)

-- the word of a truth
abbrev pub truth_text : Bool → Text
truth_text true = codes "true"
truth_text false = codes "false"

-- the text is read as that value of the type, whatever is declared
abbrev pub IsReadAs : Text → Ty → Value → Type 0
IsReadAs text t v = (ds : Decls) → (value_read ds t text ≡ Ok v) × IsTrue (has_type ds v t)
