-- Names and types as the lines of tables spell them.
use Rattle.std.specs.Prelude.{◌≡◌, ℕ, suc, List, [], ◌∷◌, ◌++◌, map, Some, None, codes}
use Rattle.std.specs.Char.{is_ascii_uppercase}
use Rattle.cat_scope.specs.Names.{IsOneOf}
use Rattle.cat_lex.specs.Words.{keyword_of}
use Rattle.cat_lex.specs.Forms.{IsWord, begins_name}
use Rattle.cat_image.specs.declared.tables.ImageField.{ImageField}
use Rattle.cat_image.specs.declared.tables.ImageStructure.{ImageStructure}
use Rattle.cat_image.specs.declared.tables.ImageCase.{ImageCase}
use Rattle.cat_image.specs.declared.tables.ImageEnumeration.{ImageEnumeration}
use Rattle.cat_image.specs.declared.tables.ImageTables.{ImageTables}
use Rattle.cat_image.specs.Words.{Text}

-- ---- names

-- the name of a structure, an enumeration, a case or a scope
abbrev pub IsTypeName : Text → Type 0
IsTypeName text = IsWord is_ascii_uppercase text

-- the name of a field or an item
abbrev pub IsPartName : Text → Type 0
IsPartName text = IsWord begins_name text × (keyword_of text ≡ None)

-- ---- types

-- the types without parts
abbrev pub flat_types : List Text
flat_types =
    codes "boolean" ∷ codes "integer" ∷ codes "decimal" ∷ codes "money" ∷ codes "date" ∷ codes "duration" ∷ []

-- the names of structures and of enumerations
abbrev pub type_names : ImageTables → List Text
type_names tables =
    map (λ (s : ImageStructure). s.name) tables.structures ++ map (λ (e : ImageEnumeration). e.name) tables.enumerations

-- a type that is there
pub data IsKnown (tables : ImageTables) : Text → Type 0 where
  flat : {text : Text} → IsOneOf text flat_types → IsKnown tables text
  declared : {text : Text} → IsOneOf text (type_names tables) → IsKnown tables text
  list : {text : Text} → IsKnown tables text → IsKnown tables (codes "list of " ++ text)

-- a type behind its lists
pub data IsBase : Text → Text → Type 0 where
  itself : {text : Text} → IsBase text text
  list : {text base : Text} → IsBase text base → IsBase (codes "list of " ++ text) base

-- a structure or an enumeration of that name has a part of that type
pub data HasPart (tables : ImageTables) : Text → Text → Type 0 where
  field : (s : ImageStructure) (f : ImageField) → IsOneOf s tables.structures → IsOneOf f s.fields
      → HasPart tables s.name f.ty
  content : (e : ImageEnumeration) (c : ImageCase) (ty : Text) → IsOneOf e tables.enumerations → IsOneOf c e.cases
      → c.content ≡ Some ty → HasPart tables e.name ty

-- one name leads by parts to another one
pub data IsMadeOf (tables : ImageTables) : Text → Text → Type 0 where
  here : {name : Text} → IsMadeOf tables name name
  part : {name ty base other : Text} → HasPart tables name ty → IsBase ty base → IsMadeOf tables base other
      → IsMadeOf tables name other

-- a type is higher than a number
pub data IsHigher (tables : ImageTables) : ℕ → Text → Type 0 where
  any : {text : Text} → IsHigher tables 0 text
  list : {k : ℕ} {text : Text} → IsHigher tables k text → IsHigher tables (suc k) (codes "list of " ++ text)
  part : {k : ℕ} {name ty : Text} → HasPart tables name ty → IsHigher tables k ty → IsHigher tables (suc k) name
