-- What depends on itself, and what is called in too long a chain: where this stands in a source.
use Rattle.std.specs.Prelude.{◌≡◌, ◌⊎◌, ℕ, suc, not, ◌&&◌, Bool, List, [], ◌∷◌, ◌++◌, map, flat_map, Some, slice_get}
use Rattle.cat_pos.specs.declared.pos.Pos.{Pos}
use Rattle.cat_order.specs.Cycle.{DependsOn, IsPath, IsOnCycle}
use Rattle.cat_value.specs.declared.decls.Decls.{Decls}
use Rattle.cat_value.specs.declared.declaration.Kind.TheVariants as kind
use Rattle.cat_value.specs.declared.declaration.ItemDecl.{ItemDecl}
use Rattle.cat_value.specs.declared.declaration.Scope.{Scope}
use Rattle.cat_value.specs.Dependencies.{type_dependencies}
use Rattle.cat_tree.specs.declared.name.Name.{Name}
use Rattle.cat_tree.specs.declared.program.Tree.{Tree}
use Rattle.cat_scope.specs.declared.defs.Body.{Body}
use Rattle.cat_scope.specs.Names.{IsOneOf}
use Rattle.cat_scope.specs.Orders.{item_dependencies, function_calls, scope_dependencies}
use Rattle.cat_scope.specs.Chains.{is_within, longest_chain}
use Rattle.cat_names.specs.Found.{fault_if}
use Rattle.cat_names.specs.declared.fault.Fault.{Fault}
use Rattle.cat_names.specs.declared.fault.Fault.TheVariants.{TypeCycle, ScopeCycle, VariableCycle, TooMany}
use Rattle.cat_names.specs.Lookup.{scope_named}
use Rattle.cat_names.specs.Lists.{numbered}
use Rattle.cat_names.specs.Written.{structures_in, enumerations_in, scopes_in, names_of, positions}
use Rattle.cat_names.specs.Declarations.{Declared}
use Rattle.cat_names.specs.ScopeWords.{words_in}

-- ---- types

-- the position of each name of a structure and, behind these, of an enumeration
abbrev pub type_positions : Tree → List Pos
type_positions tree =
    positions (names_of (structures_in tree.items)) ++ positions (names_of (enumerations_in tree.items))

-- the name of a structure or an enumeration that is a part of itself
pub record IsTypeCycle (tree : Tree) (ds : Declared) (fault : Fault) : Type 0 where
  pub number : ℕ
  pub position : Pos
  pub on_cycle : IsOnCycle (type_dependencies ds.structures ds.enumerations) number
  pub position_is : slice_get (type_positions tree) number ≡ Some position
  pub fault_is : fault ≡ TypeCycle position

-- ---- scopes

-- one leads to another by any number of dependencies
abbrev pub LeadsTo : List (List ℕ) → ℕ → ℕ → Type 0
LeadsTo deps from to = (from ≡ to) ⊎ ((path : List ℕ) × IsPath deps from path to)

-- a scope calls another that leads back to it
abbrev pub IsCallOnCycle : List (List ℕ) → ℕ → ℕ → Type 0
IsCallOnCycle deps caller called = DependsOn deps caller called × LeadsTo deps called caller

-- the name of a called scope, in the declaration of a scope to which that scope leads back
pub record IsDeclaredCycle (ds : Decls) (bodies : List Body) (fault : Fault) : Type 0 where
  pub caller : ℕ
  pub called : ℕ
  pub scope : Scope
  pub item : ItemDecl
  pub scope_is : slice_get ds.scopes caller ≡ Some scope
  pub item_is : IsOneOf item scope.items
  pub kind_is : item.kind ≡ kind.Called called
  pub on_cycle : IsCallOnCycle (scope_dependencies ds.scopes bodies) caller called
  pub fault_is : fault ≡ ScopeCycle item.pos

-- the scope's word of a scope call, in a block of a scope to which that scope leads back
pub record IsCalledCycle (tree : Tree) (ds : Decls) (bodies : List Body) (fault : Fault) : Type 0 where
  pub caller : ℕ
  pub called : ℕ × Scope
  pub word : Name
  pub word_is : IsOneOf word (words_in ds caller tree.items)
  pub called_is : scope_named word.text ds.scopes ≡ Some called
  pub on_cycle : IsCallOnCycle (scope_dependencies ds.scopes bodies) caller called.0
  pub fault_is : fault ≡ ScopeCycle word.pos

-- what calls a scope on a cycle
abbrev pub IsScopeCycle : Tree → Decls → List Body → Fault → Type 0
IsScopeCycle tree ds bodies fault = IsDeclaredCycle ds bodies fault ⊎ IsCalledCycle tree ds bodies fault

-- ---- items

-- the name of an item that depends on itself
pub record IsItemCycle (ds : Decls) (bodies : List Body) (fault : Fault) : Type 0 where
  pub number : ℕ
  pub item_number : ℕ
  pub scope : Scope
  pub body : Body
  pub item : ItemDecl
  pub scope_is : slice_get ds.scopes number ≡ Some scope
  pub body_is : slice_get bodies number ≡ Some body
  pub item_is : slice_get scope.items item_number ≡ Some item
  pub on_cycle : IsOnCycle (item_dependencies scope.items body.defs) item_number
  pub fault_is : fault ≡ VariableCycle item.pos

-- ---- chains

-- whether a number begins a chain of one more than may be, and none of more
abbrev pub is_first_past : List (List ℕ) → ℕ → Bool
is_first_past deps n = not (is_within deps longest_chain n) && is_within deps (suc longest_chain) n

-- the first past the longest chain: each of these positions whose number begins one
abbrev pub past_chains : List (List ℕ) → List Pos → List Fault
past_chains deps positions = flat_map (λ p. fault_if (is_first_past deps p.0) (TooMany p.1)) (numbered positions)

-- the functions of scopes
abbrev pub past_functions : List Scope → List Body → List Fault
past_functions [] bodies = []
past_functions (scope ∷ scopes) [] = []
past_functions (scope ∷ scopes) (body ∷ bodies) =
    past_chains (function_calls scope.items body.defs) (map (λ i. i.pos) scope.items) ++ past_functions scopes bodies

-- the names, in their declarations, of functions and scopes from which a chain of calls is longer than it may be by one
abbrev pub chain_faults : Tree → Decls → List Body → List Fault
chain_faults tree ds bodies = past_functions ds.scopes bodies
    ++ past_chains (scope_dependencies ds.scopes bodies) (positions (names_of (scopes_in tree.items)))
