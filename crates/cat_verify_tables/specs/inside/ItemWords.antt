-- The items of scopes as their lines tell them.
use Rattle.std.specs.Prelude.{◌≡◌, ◌≤◌, ◌+◌, ◌⊎◌, ℕ, Bool, true, false, List, [], ◌++◌, length, map, Some}
use Rattle.std.specs.Prelude.{None}
use Rattle.std.specs.Prelude.{codes}
use Rattle.std.specs.List.{AllZip}
use Rattle.cat_value.specs.declared.ty.Ty.{Ty}
use Rattle.cat_value.specs.declared.ty.Ty.TheVariants as flat
use Rattle.cat_value.specs.declared.declaration.Kind.{Kind}
use Rattle.cat_value.specs.declared.declaration.Kind.TheVariants as called
use Rattle.cat_value.specs.declared.declaration.ItemDecl.{ItemDecl}
use Rattle.cat_value.specs.declared.declaration.Scope.{Scope}
use Rattle.cat_names.specs.Limits.{most_items, most_parameters}
use Rattle.cat_check_names.specs.Table.{number_in}
use Rattle.cat_image.specs.declared.tables.ImageKind.{ImageKind}
use Rattle.cat_image.specs.declared.tables.ImageKind.TheVariants as kind
use Rattle.cat_image.specs.declared.tables.ImageItem.{ImageItem}
use Rattle.cat_image.specs.declared.tables.ImageScope.{ImageScope}
use Rattle.cat_image.specs.Words.{Text}
use Rattle.cat_image.specs.Listed.{pos_words, kind_words}
use Rattle.cat_verify_tables.specs.declared.types.TypeNames.{TypeNames}
use Rattle.cat_verify_tables.specs.declared.holding.Held.{Held}
use Rattle.cat_verify_tables.specs.declared.scoping.Known.{Known}
use Rattle.cat_verify_tables.specs.TypeWords.{IsPartName}
use Rattle.cat_verify_tables.specs.WrongParts.{IsWrongName, params_text}
use Rattle.cat_verify_tables.specs.inside.FoundPlaces.{is_found}
use Rattle.cat_verify_tables.specs.inside.Causes.{IsFaulty}
use Rattle.cat_verify_tables.specs.inside.Entries.{AreTold}
use Rattle.cat_verify_tables.specs.inside.PartWords.{Spells}

-- ---- what a variable holds

-- the word of a condition, or a type
abbrev pub IsHeldType : TypeNames → Text → Bool → Ty → Type 0
IsHeldType types text true ty = (text ≡ codes "condition") × (ty ≡ flat.Boolean)
IsHeldType types text false ty = Spells types text ty

-- the types of parameters
pub record AreParamsOf (types : TypeNames) (texts : List Text) (params : List Ty) : Type 0 where
  pub each : AllZip (Spells types) texts params
  pub few : length texts ≤ most_parameters

pub record IsHeldOf (types : TypeNames) (what : Text) (held : Held) : Type 0 where
  pub text : Text
  pub texts : List Text
  pub what_is : what ≡ text ++ params_text texts
  pub ty_is : IsHeldType types text held.condition held.ty
  pub params_are : AreParamsOf types texts held.params

abbrev pub HoldsNothing : TypeNames → Text → Type 0
HoldsNothing types what = (held : Held) → IsHeldOf types what held → ⊥

-- ---- items

-- a called scope by its name, or what a variable holds
abbrev pub IsWhatOf : Known → Text → ItemDecl → Kind → Type 0
IsWhatOf known what item (called.Called scope) =
    (number_in known.scopes what ≡ Some scope) × (item.ty ≡ flat.Boolean) × (item.condition ≡ false)
    × (item.params ≡ [])
IsWhatOf known what item _ =
    IsHeldOf known.types what (record { ty = item.ty; condition = item.condition; params = item.params })

abbrev pub IsWrongWhat : Known → Text → ImageKind → Type 0
IsWrongWhat known what kind.Called = number_in known.scopes what ≡ None
IsWrongWhat known what _ = HoldsNothing known.types what

-- an item, whatever its name
pub record IsDeclOf (known : Known) (line : ImageItem) (item : ItemDecl) : Type 0 where
  pub name : item.name ≡ line.name
  pub pos : pos_words item.pos ≡ line.pos
  pub found : is_found known.files line.pos ≡ true
  pub kind : kind_words item.kind ≡ line.kind
  pub what : IsWhatOf known line.what item item.kind

-- an item behind others of these names
pub record IsItemOf (known : Known) (names : List Text) (line : ImageItem) (item : ItemDecl) : Type 0 where
  pub decl : IsDeclOf known line item
  pub right : IsWrongName IsPartName names line.name → ⊥

abbrev pub IsWrongDecl : Known → ImageItem → Type 0
IsWrongDecl known line = (is_found known.files line.pos ≡ false) ⊎ IsWrongWhat known line.what line.kind

abbrev pub IsWrongLine : Known → List Text → ImageItem → Type 0
IsWrongLine known names line = IsWrongName IsPartName names line.name ⊎ IsWrongDecl known line

abbrev pub item_names : List ImageItem → List Text
item_names items = map (λ (i : ImageItem). i.name) items

-- one for each, as many as a scope may have
pub record AreItemsOf (known : Known) (lines : List ImageItem) (items : List ItemDecl) : Type 0 where
  pub few : length lines ≤ most_items
  pub each : AreTold (λ front. IsItemOf known (item_names front)) [] lines items

abbrev pub IsWrongOrLateItem : Known → List ImageItem → ImageItem → Type 0
IsWrongOrLateItem known front line = (most_items ≤ length front) ⊎ IsWrongLine known (item_names front) line

abbrev pub HasWrongItem : Known → List ImageItem → ℕ → ℕ → Type 0
HasWrongItem known lines first line = IsFaulty (IsWrongOrLateItem known) first lines line

pub record IsScopeOf (known : Known) (line : ImageScope) (scope : Scope) : Type 0 where
  pub name : scope.name ≡ line.name
  pub items : AreItemsOf known line.items scope.items

-- a scope with a wrong item, that begins at line `first`
abbrev pub IsWrongScope : Known → ImageScope → ℕ → ℕ → Type 0
IsWrongScope known s first line = HasWrongItem known s.items (first + 1) line
