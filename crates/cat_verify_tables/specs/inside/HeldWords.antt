-- What variables hold, by the words that a text is parted into.
use Rattle.std.specs.Prelude.{◌≡◌, ◌==◌, nat_lt, if◌then◌else◌, ℕ, zero, suc, Bool, true, false}
use Rattle.std.specs.Prelude.{List, [], ◌∷◌, ◌++◌, Option, Some, None, codes, option_and_then}
use Rattle.std.specs.List.{AllZip}
use Rattle.std.specs.Option.{option_map}
use Rattle.cat_scope.specs.Names.{AllHave}
use Rattle.cat_value.specs.declared.ty.Ty.{Ty}
use Rattle.cat_value.specs.declared.ty.Ty.TheVariants as flat
use Rattle.cat_value.specs.Declarations.{highest}
use Rattle.cat_names.specs.Limits.{most_parameters}
use Rattle.cat_image.specs.Words.{Text}
use Rattle.cat_image.specs.inside.Reads.{cut}
use Rattle.cat_verify_tables.specs.declared.holding.Held.{Held}
use Rattle.cat_verify_tables.specs.declared.types.TypeNames.{TypeNames}
use Rattle.cat_verify_tables.specs.TypeWords.{IsTypeName}
use Rattle.cat_verify_tables.specs.inside.NamedWords.{names_in}
use Rattle.cat_verify_tables.specs.inside.TypeNaming.{base_of, lists_of}
use Rattle.cat_verify_tables.specs.inside.PartWords.{Spells}

-- names that are no other than words with a capital
abbrev pub ArePlain : TypeNames → Type 0
ArePlain types = AllHave (λ name. (IsTypeName name → ⊥) → ⊥) (names_in types.numbers)

-- so many lists of a base, fewer than a type may be high
abbrev pub held_in : TypeNames → ℕ → Text → Option Ty
held_in types lists base =
    if nat_lt lists highest then option_map (lists_of lists) (base_of types.numbers types.structures base) else None

-- a condition, or a type
abbrev pub IsHeldBase : TypeNames → ℕ → Text → Bool → Ty → Type 0
IsHeldBase types lists base true ty = (lists ≡ 0) × (base ≡ codes "condition") × (ty ≡ flat.Boolean)
IsHeldBase types lists base false ty = held_in types lists base ≡ Some ty

-- neither of them
abbrev pub HoldsNoBase : TypeNames → ℕ → Text → Type 0
HoldsNoBase types lists base = ((lists ≡ 0) × (base ≡ codes "condition") → ⊥) × (held_in types lists base ≡ None)

-- ---- parameters

-- what stands behind a blank
abbrev pub behind_blank : Text → Option Text
behind_blank [] = None
behind_blank (b ∷ bs) = if b == 32 then Some bs else None

-- a text in front of others, where there are these
abbrev pub before_all : Text → Option (List Text) → Option (List Text)
before_all text None = None
before_all text (Some texts) = Some (text ∷ texts)

-- a text that no comma parts, or its front and what is told of the rest behind a comma and a blank
abbrev pub parted_by : (Text → Option (List Text)) → Text → Option (Text × Text) → Option (List Text)
parted_by told text None = Some (text ∷ [])
parted_by told text (Some parts) = before_all parts.0 (option_and_then told (behind_blank parts.1))

-- at most so many texts that commas part
unfoldable pub texts_in : ℕ → Text → Option (List Text)
texts_in zero text = None
texts_in (suc k) text = parted_by (texts_in k) text (cut 44 text)

-- the types of parameters
pub record AreParamsIn (types : TypeNames) (text : Text) (params : List Ty) : Type 0 where
  pub texts : List Text
  pub parted : texts_in most_parameters text ≡ Some texts
  pub each : AllZip (Spells types) texts params

abbrev pub HasNoParams : TypeNames → Text → Type 0
HasNoParams types text = (params : List Ty) → AreParamsIn types text params → ⊥

-- ---- with parameters, or without

pub record IsHeldBare (types : TypeNames) (lists : ℕ) (base : Text) (held : Held) : Type 0 where
  pub own : IsHeldBase types lists base held.condition held.ty
  pub none : held.params ≡ []

-- a base, and behind a blank and `of` the types of parameters
pub record IsHeldWith (types : TypeNames) (lists : ℕ) (base more : Text) (held : Held) : Type 0 where
  pub own : IsHeldBase types lists base held.condition held.ty
  pub text : Text
  pub more_is : more ≡ codes "of " ++ text
  pub params : AreParamsIn types text held.params

-- no base, another word behind it, or no types of parameters
pub data HoldsNoneWith (types : TypeNames) (lists : ℕ) (base more : Text) : Type 0 where
  own : HoldsNoBase types lists base → HoldsNoneWith types lists base more
  word : ((rest : Text) → more ≡ codes "of " ++ rest → ⊥) → HoldsNoneWith types lists base more
  params : (text : Text) → more ≡ codes "of " ++ text → HasNoParams types text → HoldsNoneWith types lists base more
