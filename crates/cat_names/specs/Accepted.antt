-- Which trees are accepted, with their programs, and what stands against the others.
use Rattle.std.specs.Prelude.{◌≡◌, ◌<◌, IsTrue, ℕ, List, [], ◌∷◌, length, map, Ok}
use Rattle.cat_pos.specs.declared.limits.TheConstants.{ENTRIES_BOUND}
use Rattle.cat_order.specs.Order.{IsOrder}
use Rattle.cat_value.specs.declared.decls.Decls.{Decls}
use Rattle.cat_value.specs.declared.declaration.Scope.{Scope}
use Rattle.cat_value.specs.Dependencies.{type_dependencies}
use Rattle.cat_tree.specs.declared.name.Name.{Name}
use Rattle.cat_tree.specs.declared.program.FieldItem.{FieldItem}
use Rattle.cat_tree.specs.declared.program.Tree.{Tree}
use Rattle.cat_tree.specs.Programs.{are_filled}
use Rattle.cat_scope.specs.declared.defs.Body.{Body}
use Rattle.cat_scope.specs.Names.{IsOneOf}
use Rattle.cat_scope.specs.Orders.{item_dependencies, function_calls, scope_dependencies}
use Rattle.cat_scope.specs.Chains.{HasShortChains, HasNoCycle}
use Rattle.cat_names.specs.declared.fault.Fault.{Fault}
use Rattle.cat_names.specs.Found.{Stands}
use Rattle.cat_names.specs.Written.{structures_in}
use Rattle.cat_names.specs.Declarations.{Declared, declared_of}
use Rattle.cat_names.specs.NameFaults.{name_faults}
use Rattle.cat_names.specs.Heights.{height_faults}
use Rattle.cat_names.specs.Bodies.{UnorderedBody, bodies_meant}
use Rattle.cat_names.specs.Cycles.{IsTypeCycle, IsScopeCycle, IsItemCycle, chain_faults}

-- the structures of a tree have fewer fields than a u32 numbers
abbrev pub AreCounted : List (Name × List FieldItem) → Type 0
AreCounted [] = Unit {0}
AreCounted (s ∷ more) = (length s.1 < ENTRIES_BOUND) × AreCounted more

-- what is known of a tree that was read: each structure has a field and each enumeration a case, and a u32 numbers its
-- lists
pub record IsParsed (tree : Tree) : Type 0 where
  pub filled : IsTrue (are_filled tree.items)
  pub items : length tree.items < ENTRIES_BOUND
  pub fields : AreCounted (structures_in tree.items)

-- ---- accepted trees

-- no name is twice, each name of a type, scope, item or bound name names something, and the counts are kept; with what
-- the tree then declares
pub record IsNamed (tree : Tree) (ds : Declared) : Type 0 where
  pub names : name_faults tree ≡ []
  pub declared : declared_of tree.items ≡ Ok ds

-- declarations without what is known of them
abbrev pub parts_of : Decls → Declared
parts_of ds = record { structures = ds.structures; enumerations = ds.enumerations; scopes = ds.scopes }

-- a body without the order of its items
abbrev pub unordered : Body → UnorderedBody
unordered b = record {
  defs = b.defs;
  assertions = b.assertions;
  source = b.source;
  rounding = b.rounding;
  calls = b.calls;
}

-- what a tree means whose names, types and expressions are in order: its declarations, of which `Decls` keeps that no
-- type is on a cycle or too high, and what it says of each scope, but for the order of the items
pub record IsMeant (tree : Tree) (decls : Decls) (bodies : List Body) : Type 0 where
  pub named : IsNamed tree (parts_of decls)
  pub meant : bodies_meant decls tree ≡ Ok (map unordered bodies)

-- the items of each scope are in order, and no chain of its functions is too long
abbrev pub AreOrdered : List Scope → List Body → Type 0
AreOrdered [] [] = Unit {0}
AreOrdered [] (body ∷ bodies) = ⊥
AreOrdered (scope ∷ scopes) [] = ⊥
AreOrdered (scope ∷ scopes) (body ∷ bodies) = IsOrder (item_dependencies scope.items body.defs) body.order
    × HasShortChains (function_calls scope.items body.defs) × AreOrdered scopes bodies

-- the program of a tree: what it means, with the orders; and no chain of calls is too long
pub record IsProgramOf (tree : Tree) (decls : Decls) (bodies : List Body) (scope_order : List ℕ) : Type 0 where
  pub meant : IsMeant tree decls bodies
  pub items : AreOrdered decls.scopes bodies
  pub order : IsOrder (scope_dependencies decls.scopes bodies) scope_order
  pub chains : HasShortChains (scope_dependencies decls.scopes bodies)

-- ---- refused trees

-- no item of any scope is on a cycle
abbrev pub HaveNoCycles : List Scope → List Body → Type 0
HaveNoCycles [] bodies = Unit {0}
HaveNoCycles (scope ∷ scopes) [] = Unit {0}
HaveNoCycles (scope ∷ scopes) (body ∷ bodies) =
    HasNoCycle (item_dependencies scope.items body.defs) × HaveNoCycles scopes bodies

-- a fault that stands against a tree: one of the first kind in this order of which any stands
pub data IsRefused (tree : Tree) (fault : Fault) : Type 0 where
  -- names and counts
  name : IsOneOf fault (name_faults tree) → IsRefused tree fault
  -- types that are parts of themselves
  type_cycle : (ds : Declared) → IsNamed tree ds → IsTypeCycle tree ds fault → IsRefused tree fault
  -- declared types that are too high
  height : (ds : Declared) → IsNamed tree ds → HasNoCycle (type_dependencies ds.structures ds.enumerations)
      → IsOneOf fault (height_faults tree ds) → IsRefused tree fault
  -- placements, expressions and the heights of their types
  expression : (decls : Decls) → IsNamed tree (parts_of decls) → Stands fault (bodies_meant decls tree)
      → IsRefused tree fault
  -- scopes that call themselves
  scope_cycle : (decls : Decls) (bodies : List Body) → IsMeant tree decls bodies → IsScopeCycle tree decls bodies fault
      → IsRefused tree fault
  -- items that depend on themselves
  item_cycle : (decls : Decls) (bodies : List Body) → IsMeant tree decls bodies
      → HasNoCycle (scope_dependencies decls.scopes bodies) → IsItemCycle decls bodies fault → IsRefused tree fault
  -- chains of calls that are too long
  chain : (decls : Decls) (bodies : List Body) → IsMeant tree decls bodies
      → HasNoCycle (scope_dependencies decls.scopes bodies) → HaveNoCycles decls.scopes bodies
      → IsOneOf fault (chain_faults tree decls bodies) → IsRefused tree fault
