-- Readings of constants' texts, and of texts by declarations of the same words.
use Rattle.std.specs.Prelude.{◌≡◌, ℕ, IsTrue, List, map, Ok}
use Rattle.cat_value.specs.declared.ty.Ty.{Ty}
use Rattle.cat_value.specs.declared.decls.Decls.{Decls}
use Rattle.cat_value.specs.Typing.{is_type}
use Rattle.cat_json.specs.InputsRead.{value_read}
use Rattle.cat_answer.specs.Writes.{value_bytes}
use Rattle.cat_code.specs.declared.code.Constant.{Constant}
use Rattle.cat_listing.specs.Texts.{type_text}
use Rattle.cat_image.specs.declared.tables.ImageTables.{ImageTables}
use Rattle.cat_image.specs.Listed.{structure_words, enumeration_words}

-- a constant's text is read as it
abbrev pub IsReadBack : Decls → Constant → Type 0
IsReadBack ds c = value_read ds c.ty (value_bytes ds c.ty c.value) ≡ Ok c.value

-- declarations with the words of these read a text of a type alike
abbrev pub AreReadAlike : ImageTables → Decls → Type 0
AreReadAlike image ds =
    (other : Decls) → image.structures ≡ map (structure_words other) other.structures
    → image.enumerations ≡ map (enumeration_words other) other.enumerations → (t u : Ty) → IsTrue (is_type ds t)
    → type_text ds t ≡ type_text other u → (text : List ℕ) → value_read other u text ≡ value_read ds t text
