-- The variables that texts `S.x` and `S.t.x` name.
use Rattle.std.specs.Prelude.{◌≡◌, ◌⊎◌, ℕ, true, false, Option, Some, None}
use Rattle.std.specs.Prelude.{option_map, option_and_then}
use Rattle.cat_value.specs.declared.decls.Decls.{Decls}
use Rattle.cat_value.specs.declared.declaration.Kind.{Kind}
use Rattle.cat_value.specs.declared.declaration.Kind.TheVariants as kind
use Rattle.cat_value.specs.declared.outcome.Target.{Target}
use Rattle.cat_scope.specs.Names.{scope_items}
use Rattle.cat_names.specs.Lookup.{item_named, scope_named}
use Rattle.cat_image.specs.declared.tables.ImageTarget.{ImageTarget}
use Rattle.cat_image.specs.Listed.{pos_words}
use Rattle.cat_code.specs.declared.code.TargetEntry.{TargetEntry}
use Rattle.cat_image.specs.Words.{Text}
use Rattle.cat_image.specs.inside.Reads.{cut}
use Rattle.cat_verify_tables.specs.inside.FoundPlaces.{is_found}

-- an item of a scope by its name: its number, and the kind that it has
abbrev pub kind_named : Decls → ℕ → Text → Option (ℕ × Kind)
kind_named ds scope name = option_map (λ i. (i.0, i.1.kind)) (item_named name (scope_items ds scope))

-- its number, where it is a variable
abbrev pub number_if_own : ℕ × Kind → Option ℕ
number_if_own (number, kind.Called scope) = None
number_if_own (number, _) = Some number

abbrev pub own_named : Decls → ℕ → Text → Option ℕ
own_named ds scope name = option_and_then number_if_own (kind_named ds scope name)

-- a variable of a scope that the item calls
abbrev pub inner_named : Decls → ℕ → Text → ℕ × Kind → Option Target
inner_named ds scope name (item, kind.Called called) =
    option_map (λ inner. record { scope = scope; item = item; inner = Some inner }) (own_named ds called name)
inner_named ds scope name (item, _) = None

-- the target of what stands behind the name of a scope
abbrev pub variable_named : Decls → ℕ → Text → Option (Text × Text) → Option Target
variable_named ds scope names None =
    option_map (λ item. record { scope = scope; item = item; inner = None }) (own_named ds scope names)
variable_named ds scope names (Some parts) =
    option_and_then (inner_named ds scope parts.1) (kind_named ds scope parts.0)

-- the target behind the number of a scope
abbrev pub target_in : Decls → Text → Option ℕ → Option Target
target_in ds names None = None
target_in ds names (Some scope) = variable_named ds scope names (cut 46 names)

abbrev pub target_named : Decls → Text → Option Target
target_named ds place = option_and_then
    (λ parts. target_in ds parts.1 (option_map (λ s. s.0) (scope_named parts.0 ds.scopes))) (cut 46 place)

-- ---- entries

pub record IsEntryOf (ds : Decls) (files : ℕ) (line : ImageTarget) (entry : TargetEntry) : Type 0 where
  pub target : target_named ds line.place ≡ Some entry.target
  pub pos : pos_words entry.pos ≡ line.pos
  pub found : is_found files line.pos ≡ true

abbrev pub IsWrongEntry : Decls → ℕ → ImageTarget → Type 0
IsWrongEntry ds files line = (is_found files line.pos ≡ false) ⊎ (target_named ds line.place ≡ None)
