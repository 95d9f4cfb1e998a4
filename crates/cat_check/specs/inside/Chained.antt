-- Chains of calls.
use Rattle.std.specs.Prelude.{◌≡◌, ℕ, List, Some, slice_get}
use Rattle.cat_value.specs.declared.declaration.ItemDecl.{ItemDecl}
use Rattle.cat_value.specs.declared.declaration.Scope.{Scope}
use Rattle.cat_value.specs.declared.decls.Decls.{Decls}
use Rattle.cat_tree.specs.declared.program.Tree.{Tree}
use Rattle.cat_scope.specs.declared.defs.Body.{Body}
use Rattle.cat_scope.specs.declared.defs.Def.{Def}
use Rattle.cat_scope.specs.Names.{IsOneOf}
use Rattle.cat_scope.specs.Chains.{HasShortChains}
use Rattle.cat_scope.specs.Orders.{function_calls}
use Rattle.cat_names.specs.declared.fault.Fault.{Fault}
use Rattle.cat_names.specs.declared.fault.Fault.TheVariants.{TooMany}
use Rattle.cat_names.specs.Cycles.{chain_faults, past_functions}
use Rattle.cat_depend.specs.Past.{IsPast}

-- no chain of the functions of a scope is too long
abbrev pub AreShort : List Scope → List Body → Type 0
AreShort scopes bodies = (k : ℕ) (s : Scope) (b : Body) → slice_get scopes k ≡ Some s → slice_get bodies k ≡ Some b
    → HasShortChains (function_calls s.items b.defs)

-- the name of a function from which a chain is longer than it may be by one
pub record IsLongFunction (items : List ItemDecl) (defs : List Def) (fault : Fault) : Type 0 where
  pub number : ℕ
  pub item : ItemDecl
  pub past : IsPast (function_calls items defs) number
  pub item_is : slice_get items number ≡ Some item
  pub fault_is : fault ≡ TooMany item.pos

-- one of the faults of chains of functions
abbrev pub IsFunctionFault : List Scope → List Body → Fault → Type 0
IsFunctionFault scopes bodies fault = IsOneOf fault (past_functions scopes bodies)

-- one of the faults of chains
abbrev pub IsChainFault : Tree → Decls → List Body → Fault → Type 0
IsChainFault tree ds bodies fault = IsOneOf fault (chain_faults tree ds bodies)
