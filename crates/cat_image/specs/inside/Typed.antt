-- What is read of a constant: the longest type, and what stands behind it.
use Rattle.std.specs.Prelude.{ℕ, zero, suc, List, [], ◌∷◌, ◌++◌, Option, Some, None, codes, if◌then◌else◌}
use Rattle.std.specs.Option.{option_map}
use Rattle.cat_image.specs.declared.row.Row.{Row}
use Rattle.cat_image.specs.declared.row.Row.TheVariants as row
use Rattle.cat_image.specs.declared.typed.Typed.{Typed}
use Rattle.cat_image.specs.Words.{Text, words, has_bytes, begin_list}
use Rattle.cat_image.specs.inside.Reads.{when, cut}

-- a text of words that are parted by blanks
abbrev pub unparted : List Text → Text
unparted [] = []
unparted (word ∷ []) = word
unparted (word ∷ next ∷ more) = word ++ 32 ∷ unparted (next ∷ more)

-- ---- by words

-- the words of the longest type behind `list of`, and those behind it; `list` is a name where no type is left
abbrev pub typed_or : List Text → Option (List Text × List Text) → Option (List Text × List Text)
typed_or more None = Some (codes "list" ∷ [], codes "of" ∷ more)
typed_or more (Some p) = Some (codes "list" ∷ codes "of" ∷ p.0, p.1)

-- the words of the longest type, and those behind it, of which there is one
abbrev pub typed_of : List Text → Option (List Text × List Text)
typed_of [] = None
typed_of (a ∷ []) = None
typed_of (a ∷ b ∷ more) =
    if begin_list a b then typed_or more (typed_of more) else (if has_bytes a then Some (a ∷ [], b ∷ more) else None)

-- a constant: the longest type in front, and its value behind a blank
unfoldable pub constant_of : Text → Option Row
constant_of text =
    option_map (λ p. row.Constant (record { ty = unparted p.0; value = unparted p.1 })) (typed_of (words text))

-- ---- as it is read

-- a name in front of a blank, and what stands behind it
abbrev pub named : Text → Option (Text × Text)
named text = when (cut 32 text) (λ p. if has_bytes p.0 then Some p else None)

-- so many times `list of`, in words and as a text
abbrev pub lists_words : ℕ → List Text → List Text
lists_words zero more = more
lists_words (suc n) more = codes "list" ∷ codes "of" ∷ lists_words n more

-- the text of lists of lists, so many, of a type
abbrev pub listed : ℕ → Text → Text
listed zero name = name
listed (suc n) name = codes "list of " ++ listed n name

-- the words of both
abbrev pub typed_words : Typed → List Text × List Text
typed_words t = (lists_words t.lists (t.name.now ∷ []), words t.value.now)
