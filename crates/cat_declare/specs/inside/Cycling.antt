-- Whether types are in order.
use Rattle.std.specs.Prelude.{ℕ, List, Result, Ok, Err}
use Rattle.cat_order.specs.Order.{IsOrder}
use Rattle.cat_value.specs.Dependencies.{type_dependencies}
use Rattle.cat_names.specs.Declarations.{Declared}
use Rattle.cat_names.specs.declared.fault.Refusal.{Refusal}
use Rattle.cat_names.specs.declared.fault.Refusal.TheVariants.{Memory, Refused}
use Rattle.cat_names.specs.Cycles.{IsTypeCycle}
use Rattle.cat_tree.specs.declared.program.Tree.{Tree}
use Rattle.cat_declare.specs.inside.Made.{made, whole}

-- what types depend on
abbrev pub dependencies : Declared → List (List ℕ)
dependencies ds = type_dependencies ds.structures ds.enumerations

-- the types of a tree have an order
abbrev pub HasOrder : Tree → Type 0
HasOrder tree = (listed : List ℕ) × IsOrder (dependencies (made whole tree.items)) listed

-- a reply: there is an order, or a type is a part of itself, or want of memory
abbrev pub Orders : Tree → Declared → {A : Type 0} → Result A Refusal → Type 0
Orders tree ds (Ok a) = (listed : List ℕ) × IsOrder (dependencies ds) listed
Orders tree ds (Err Memory) = Unit {0}
Orders tree ds (Err (Refused fault)) = IsTypeCycle tree ds fault
