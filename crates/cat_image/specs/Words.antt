-- The words of a listing's lines: types, numbers and positions.
use Rattle.std.specs.Prelude.{ℕ, ◌^◌, ◌<◌, ◌==◌, ◌&&◌, ◌||◌, Bool, true, false, List, [], ◌∷◌, ◌++◌, codes, decimal}
use Rattle.std.specs.Prelude.{if◌then◌else◌}
use Rattle.std.specs.Str.{bytes_eq}
use Rattle.cat_image.specs.declared.tables.ImagePos.{ImagePos}
use Rattle.cat_image.specs.declared.tables.ImageKind.{ImageKind}
use Rattle.cat_image.specs.declared.tables.ImageKind.TheVariants as kind

-- a text by its bytes
abbrev pub Text : Type 0
Text = List ℕ

-- ---- parts of a text

-- a byte in front of the first part
abbrev pub byte_before : ℕ → List Text → List Text
byte_before b [] = (b ∷ []) ∷ []
byte_before b (part ∷ parts) = (b ∷ part) ∷ parts

-- what stands between the bytes of that kind in a text, in front of the first and behind the last
unfoldable pub parts : ℕ → Text → List Text
parts byte [] = [] ∷ []
parts byte (b ∷ bs) = if b == byte then [] ∷ parts byte bs else byte_before b (parts byte bs)

-- a text is parted by blanks
abbrev pub words : Text → List Text
words text = parts 32 text

-- ---- names and types

-- a text that is not empty
abbrev pub has_bytes : Text → Bool
has_bytes [] = false
has_bytes (b ∷ bs) = true

-- words that are one name
abbrev pub is_name_of : List Text → Bool
is_name_of (name ∷ []) = has_bytes name
is_name_of _ = false

-- the words `list` and `of`
abbrev pub begin_list : Text → Text → Bool
begin_list a b = bytes_eq a (codes "list") && bytes_eq b (codes "of")

-- words that are a type: a name, or `list of` and a type
abbrev pub is_type_of : List Text → Bool
is_type_of [] = false
is_type_of (name ∷ []) = has_bytes name
is_type_of (a ∷ b ∷ more) = begin_list a b && is_type_of more

-- a name with a comma behind it
abbrev pub is_followed : Text → Bool
is_followed [] = false
is_followed (a ∷ []) = false
is_followed (a ∷ b ∷ []) = b == 44
is_followed (a ∷ b ∷ c ∷ bs) = is_followed (b ∷ c ∷ bs)

-- words that are types, parted by commas
abbrev pub are_types_of : List Text → Bool
are_types_of [] = false
are_types_of (name ∷ []) = has_bytes name
are_types_of (a ∷ b ∷ more) = (is_followed a && are_types_of (b ∷ more)) || (begin_list a b && are_types_of more)

-- words that are a type, and behind `of` the types of parameters, where there are some
abbrev pub is_what_of : List Text → Bool
is_what_of [] = false
is_what_of (name ∷ []) = has_bytes name
is_what_of (a ∷ b ∷ more) =
    (has_bytes a && (bytes_eq b (codes "of") && are_types_of more)) || (begin_list a b && is_what_of more)

-- a text that is one word
abbrev pub is_name : Text → Bool
is_name text = is_name_of (words text)

-- a text that is a type
abbrev pub is_type : Text → Bool
is_type text = is_type_of (words text)

-- a text that is a type, or a type and those of parameters
abbrev pub is_what : Text → Bool
is_what text = is_what_of (words text)

-- ---- numbers and positions

-- a number that 32 bits hold
abbrev pub IsSmall : ℕ → Type 0
IsSmall n = n < 2 ^ 32

-- a position of numbers that 32 bits hold
abbrev pub IsSmallPos : ImagePos → Type 0
IsSmallPos p = IsSmall p.file × IsSmall p.line × IsSmall p.column

-- the text of a position: three numbers, parted by colons
abbrev pub pos_text : ImagePos → Text
pos_text p = decimal p.file ++ (codes ":" ++ (decimal p.line ++ (codes ":" ++ decimal p.column)))

-- the word of a kind
abbrev pub kind_text : ImageKind → Text
kind_text kind.Input = codes "input"
kind_text kind.Output = codes "output"
kind_text kind.Internal = codes "internal"
kind_text kind.Context = codes "context"
kind_text kind.InputOutput = codes "inputoutput"
kind_text kind.ContextOutput = codes "contextoutput"
kind_text kind.Called = codes "called"
