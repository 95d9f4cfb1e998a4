-- What names name: the first of a list that has the name, or the innermost bound one.
use Rattle.std.specs.Option.{option_or}
use Rattle.std.specs.Prelude.{ℕ, zero, suc, bytes_eq, List, [], ◌∷◌, Option, Some, None, option_map, map, reverse, find}
use Rattle.std.specs.Prelude.{filter_map}
use Rattle.cat_value.specs.declared.ty.Ty.{Ty}
use Rattle.cat_value.specs.declared.ty.Ty.TheVariants as flat
use Rattle.cat_value.specs.declared.ty.Ty.TheViews as types
use Rattle.cat_value.specs.declared.decls.Decls.{Decls}
use Rattle.cat_value.specs.declared.declaration.Enumeration.{Enumeration}
use Rattle.cat_value.specs.declared.declaration.ItemDecl.{ItemDecl}
use Rattle.cat_value.specs.declared.declaration.Scope.{Scope}
use Rattle.cat_value.specs.declared.declaration.Kind.{Kind}
use Rattle.cat_value.specs.declared.declaration.Kind.TheVariants as kind
use Rattle.cat_tree.specs.declared.name.Base.{Base}
use Rattle.cat_tree.specs.declared.name.Base.TheVariants as base
use Rattle.cat_tree.specs.declared.name.Type as written
use Rattle.cat_names.specs.declared.fault.Fault.TheVariants.{NameUnknown}
use Rattle.cat_names.specs.declared.typed.Local.{Local}
use Rattle.cat_names.specs.Lists.{numbered}
use Rattle.cat_names.specs.Found.{Found, or_fault}

-- the first of a list that has the name, with its number
abbrev pub first_named : {A : Type 0} → (A → List ℕ) → List ℕ → List A → Option (ℕ × A)
first_named name_of w xs = find (λ x. bytes_eq (name_of x.1) w) (numbered xs)

-- the last bound name of that spelling, with its number and its type: an inner name hides an outer one
abbrev pub innermost : List ℕ → List Local → Option (ℕ × Ty)
innermost w locals =
    option_map (λ l. (l.0, l.1.ty)) (find (λ l. bytes_eq l.1.name w) (reverse (numbered locals)))

-- the item of a scope that has the name
abbrev pub item_named : List ℕ → List ItemDecl → Option (ℕ × ItemDecl)
item_named w items = first_named (λ i. i.name) w items

-- the scope that has the name
abbrev pub scope_named : List ℕ → List Scope → Option (ℕ × Scope)
scope_named w scopes = first_named (λ s. s.name) w scopes

-- the scope that a kind calls
abbrev pub scope_called : Kind → Option ℕ
scope_called (kind.Called scope) = Some scope
scope_called _ = None

-- the names of all structures and of all enumerations, each in the order of their declarations
pub record TypeNames : Type 0 where
  pub structures : List (List ℕ)
  pub enumerations : List (List ℕ)

-- the type that has the name: a structure, or else an enumeration
abbrev pub type_named : TypeNames → List ℕ → Option Ty
type_named names u =
    option_or (option_map (λ s. flat.Structure s.0) (first_named (λ name. name) u names.structures))
    (option_map (λ e. flat.Enumeration e.0) (first_named (λ name. name) u names.enumerations))

-- the names of the types that are declared
abbrev pub type_names : Decls → TypeNames
type_names ds =
    record { structures = map (λ s. s.name) ds.structures; enumerations = map (λ e. e.name) ds.enumerations }

-- the type that a base stands for
abbrev pub base_type : TypeNames → Base → Option Ty
base_type names base.Boolean = Some flat.Boolean
base_type names base.Integer = Some flat.Integer
base_type names base.Decimal = Some flat.Decimal
base_type names base.Money = Some flat.Money
base_type names base.Date = Some flat.Date
base_type names base.Duration = Some flat.Duration
base_type names (base.Named u) = type_named names u

-- a type behind so many `list of`
abbrev pub nested_list : ℕ → Ty → Ty
nested_list zero t = t
nested_list (suc n) t = types.List (nested_list n t)

-- the type that is written
abbrev pub type_written : TypeNames → written.Type → Option Ty
type_written names t = option_map (nested_list t.lists) (base_type names t.base)

-- the same, or that the name in it is unknown
abbrev pub type_found : TypeNames → written.Type → Found Ty
type_found names t = or_fault (NameUnknown t.pos) (type_written names t)

-- the case of that name of a numbered enumeration: the number of the enumeration, and its own
abbrev pub case_named : List ℕ → ℕ × Enumeration → Option (ℕ × ℕ)
case_named c e = option_map (λ k. (e.0, k.0)) (first_named (λ k. k.name) c e.1.cases)

-- the cases of that name of all enumerations
abbrev pub cases_named : List ℕ → List Enumeration → List (ℕ × ℕ)
cases_named c enumerations = filter_map (case_named c) (numbered enumerations)

-- the types of bound names
abbrev pub types_of : List Local → List Ty
types_of [] = []
types_of (l ∷ ls) = l.ty ∷ types_of ls
