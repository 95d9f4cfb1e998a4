-- What is read of a text: what it spells, or nothing where it spells nothing of the kind.
use Rattle.std.specs.Prelude.{ℕ, ◌+◌, ◌*◌, ◌-◌, ◌^◌, nat_lt, ◌==◌, ◌&&◌, not, Bool, true, false, List, [], ◌∷◌}
use Rattle.std.specs.Prelude.{Option, Some, None}
use Rattle.std.specs.Prelude.{codes, if◌then◌else◌}
use Rattle.std.specs.Char.{is_ascii_digit}
use Rattle.std.specs.Str.{bytes_eq}
use Rattle.cat_image.specs.declared.tables.ImagePos.{ImagePos}
use Rattle.cat_image.specs.Words.{Text, words, has_bytes, begin_list, is_followed, are_types_of}

-- what follows from something, where it is there
abbrev pub when : {A B : Type 0} → Option A → (A → Option B) → Option B
when None then_it = None
when (Some a) then_it = then_it a

-- a byte in front of the first of two parts
abbrev pub in_front : ℕ → Option (Text × Text) → Option (Text × Text)
in_front b None = None
in_front b (Some p) = Some (b ∷ p.0, p.1)

-- a text up to the first byte of that kind, and what stands behind it
unfoldable pub cut : ℕ → Text → Option (Text × Text)
cut byte [] = None
cut byte (b ∷ bs) = if b == byte then Some ([], bs) else in_front b (cut byte bs)

-- a byte that is another than that one
abbrev pub is_other : ℕ → ℕ → Bool
is_other byte b = not (b == byte)

-- ---- numbers

-- the number whose digits are those of a number and then these, where 32 bits hold it
unfoldable pub digits_after : Text → ℕ → Option ℕ
digits_after [] n = Some n
digits_after (b ∷ bs) n =
    if is_ascii_digit b && nat_lt (n * 10 + (b - 48)) (2 ^ 32) then digits_after bs (n * 10 + (b - 48)) else None

-- no zero stands before other digits, and there are some
abbrev pub is_plain : Text → Bool
is_plain [] = false
is_plain (b ∷ []) = true
is_plain (b ∷ c ∷ bs) = not (b == 48)

-- the number of a text of digits, without needless zeros in front
unfoldable pub number_of : Text → Option ℕ
number_of text = if is_plain text then digits_after text 0 else None

-- a position of three numbers
abbrev pub pos_by : Option ℕ → Option ℕ → Option ℕ → Option ImagePos
pos_by (Some file) (Some line) (Some column) = Some (record { file = file; line = line; column = column })
pos_by _ _ _ = None

-- the position of a text: three numbers, parted by colons
unfoldable pub pos_of : Text → Option ImagePos
pos_of text =
    when (cut 58 text) (λ a. when (cut 58 a.1) (λ b. pos_by (number_of a.0) (number_of b.0) (number_of b.1)))

-- ---- types

-- what stands behind `list of`
unfoldable pub element_of : Text → Option Text
element_of text =
    when (cut 32 text) (λ a. when (cut 32 a.1) (λ b. if begin_list a.0 b.0 then Some b.1 else None))

-- what stands behind a type with a comma, or behind `list of`
unfoldable pub passed : Text → Option Text
passed text = when (cut 32 text) (λ a. if is_followed a.0 then Some a.1 else element_of text)

-- ---- parameters

-- types behind `of`
abbrev pub params_by : Option (Text × Text) → Bool
params_by None = false
params_by (Some p) = bytes_eq p.0 (codes "of") && are_types_of (words p.1)

-- a name, and behind it the types of parameters, where there are some
abbrev pub named_by : Text → Option (Text × Text) → Bool
named_by text None = has_bytes text
named_by text (Some p) = has_bytes p.0 && params_by (cut 32 p.1)
