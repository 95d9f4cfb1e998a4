-- The types that words name, by a table of the names of structures and of enumerations behind them.
use Rattle.std.specs.Prelude.{◌≡◌, ◌<◌, ◌≤◌, ℕ, zero, suc, ◌-◌, nat_lt, if◌then◌else◌, ◌++◌, Option, Some, None}
use Rattle.std.specs.Prelude.{codes}
use Rattle.std.specs.Option.{option_map, option_or}
use Rattle.std.specs.Str.{bytes_eq}
use Rattle.cat_value.specs.declared.ty.Ty.{Ty}
use Rattle.cat_value.specs.Declarations.{highest}
use Rattle.cat_value.specs.declared.ty.Ty.TheVariants as flat
use Rattle.cat_value.specs.declared.ty.Ty.TheViews as ty
use Rattle.cat_check_names.specs.Table.{Table, number_in}
use Rattle.cat_image.specs.Words.{Text}

-- a type without parts, by its word
unfoldable pub flat_type : Text → Option Ty
flat_type word =
    if bytes_eq word (codes "boolean") then Some flat.Boolean else
    (if bytes_eq word (codes "integer") then Some flat.Integer else
    (if bytes_eq word (codes "decimal") then Some flat.Decimal else
    (if bytes_eq word (codes "money") then Some flat.Money else
    (if bytes_eq word (codes "date") then Some flat.Date else
    (if bytes_eq word (codes "duration") then Some flat.Duration else None)))))

-- the structure or the enumeration of a number, where so many structures stand in front
abbrev pub of_number : ℕ → ℕ → Ty
of_number structures n = if nat_lt n structures then flat.Structure n else flat.Enumeration (n - structures)

abbrev pub named_in : Table → ℕ → Text → Option Ty
named_in table structures name = option_map (of_number structures) (number_in table name)

-- the type of one word
abbrev pub base_of : Table → ℕ → Text → Option Ty
base_of table structures word = option_or (flat_type word) (named_in table structures word)

-- so many lists of a type
abbrev pub lists_of : ℕ → Ty → Ty
lists_of zero t = t
lists_of (suc n) t = ty.List (lists_of n t)

-- ---- with lists in front

-- so many times `list of`, and a text
abbrev pub listed : ℕ → Text → Text
listed zero text = text
listed (suc n) text = codes "list of " ++ listed n text

-- what stands behind all of them, or behind as many as a type may be high
pub record IsBehind (text : Text) (lists : ℕ) (base : Text) : Type 0 where
  pub text_is : text ≡ listed lists base
  pub most : lists ≤ highest
  pub all : lists < highest → (rest : Text) → base ≡ codes "list of " ++ rest → ⊥

-- the type that a text spells, where it is no higher than a type may be
pub record IsTyped (table : Table) (structures : ℕ) (text : Text) (found : Option Ty) : Type 0 where
  pub lists : ℕ
  pub base : Text
  pub behind : IsBehind text lists base
  pub found_is : found
      ≡ (if nat_lt lists highest then option_map (lists_of lists) (base_of table structures base) else None)
