-- Declarations with names that sources spell.
use Rattle.std.specs.Prelude.{◌≡◌, ◌≤◌, ℕ, true, List, [], ◌∷◌, ◌++◌, map, length, None}
use Rattle.std.specs.Char.{is_ascii_uppercase}
use Rattle.std.specs.Str.{IsUtf8}
use Rattle.cat_value.specs.declared.ty.Ty.TheVariants.{Boolean}
use Rattle.cat_value.specs.declared.declaration.Structure.{Structure}
use Rattle.cat_value.specs.declared.declaration.Enumeration.{Enumeration}
use Rattle.cat_value.specs.declared.declaration.Kind.TheVariants.{Called}
use Rattle.cat_value.specs.declared.declaration.ItemDecl.{ItemDecl}
use Rattle.cat_value.specs.declared.declaration.Scope.{Scope}
use Rattle.cat_value.specs.declared.decls.Decls.{Decls}
use Rattle.cat_value.specs.Declarations.{most_cases}
use Rattle.cat_lex.specs.Words.{keyword_of}
use Rattle.cat_lex.specs.Forms.{IsWord, begins_name}
use Rattle.cat_scope.specs.Names.{AllHave, IsOneOf}
use Rattle.cat_names.specs.Limits.{most_items, most_parameters}

-- ---- names

-- the name of a structure, an enumeration, a case or a scope
pub record IsTypeWord (text : List ℕ) : Type 0 where
  pub word : IsWord is_ascii_uppercase text
  pub utf8 : IsUtf8 text

-- the name of a field or an item
pub record IsPartWord (text : List ℕ) : Type 0 where
  pub word : IsWord begins_name text
  pub free : keyword_of text ≡ None
  pub utf8 : IsUtf8 text

-- none of these equals a later one
abbrev pub AreApart : List (List ℕ) → Type 0
AreApart [] = Unit {0}
AreApart (t ∷ ts) = (IsOneOf t ts → ⊥) × AreApart ts

-- ---- declarations

pub record IsSpelledStructure (s : Structure) : Type 0 where
  pub name : IsTypeWord s.name
  pub fields : AllHave (λ f. IsPartWord f.name) s.fields
  pub apart : AreApart (map (λ f. f.name) s.fields)

pub record IsSpelledEnumeration (e : Enumeration) : Type 0 where
  pub name : IsTypeWord e.name
  pub cases : AllHave (λ c. IsTypeWord c.name) e.cases
  pub apart : AreApart (map (λ c. c.name) e.cases)
  pub few : length e.cases ≤ most_cases

-- a condition is a boolean, and a called scope has no parameters
pub record IsSpelledItem (i : ItemDecl) : Type 0 where
  pub name : IsPartWord i.name
  pub few : length i.params ≤ most_parameters
  pub condition : i.condition ≡ true → i.ty ≡ Boolean
  pub called : (scope : ℕ) → i.kind ≡ Called scope → i.params ≡ []

pub record IsSpelledScope (s : Scope) : Type 0 where
  pub name : IsTypeWord s.name
  pub items : AllHave IsSpelledItem s.items
  pub apart : AreApart (map (λ i. i.name) s.items)
  pub few : length s.items ≤ most_items

-- the names of structures, of enumerations and of scopes
abbrev pub declared_names : Decls → List (List ℕ)
declared_names ds =
    map (λ (s : Structure). s.name) ds.structures ++ map (λ (e : Enumeration). e.name) ds.enumerations
    ++ map (λ (s : Scope). s.name) ds.scopes

-- each name is a word, none is twice, and the counts are kept
pub record AreSpelledDecls (ds : Decls) : Type 0 where
  pub structures : AllHave IsSpelledStructure ds.structures
  pub enumerations : AllHave IsSpelledEnumeration ds.enumerations
  pub scopes : AllHave IsSpelledScope ds.scopes
  pub apart : AreApart (declared_names ds)
