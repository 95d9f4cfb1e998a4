-- What a tree says of each of its scopes, in source order.
use Rattle.std.specs.Prelude.{ℕ, ◌||◌, not, Bool, List, [], ◌∷◌, ◌++◌, map, flat_map, Ok, if◌then◌else◌}
use Rattle.cat_pos.specs.declared.pos.Pos.{Pos}
use Rattle.cat_date.specs.declared.rounding.Rounding.{Rounding}
use Rattle.cat_date.specs.declared.rounding.Rounding.TheVariants as rounding
use Rattle.cat_value.specs.declared.decls.Decls.{Decls}
use Rattle.cat_value.specs.declared.declaration.ItemDecl.{ItemDecl}
use Rattle.cat_value.specs.declared.declaration.Scope.{Scope}
use Rattle.cat_tree.specs.declared.program.Use.{Use}
use Rattle.cat_tree.specs.declared.program.Use.TheVariants as uses
use Rattle.cat_tree.specs.declared.program.Item.{Item}
use Rattle.cat_tree.specs.declared.program.Item.TheVariants as item
use Rattle.cat_tree.specs.declared.program.Tree.{Tree}
use Rattle.cat_scope.specs.declared.defs.Def.{Def}
use Rattle.cat_scope.specs.declared.defs.Assertion as asserted
use Rattle.cat_scope.specs.declared.defs.SourcePart.{SourcePart}
use Rattle.cat_scope.specs.declared.defs.SourcePart.TheVariants as part
use Rattle.cat_scope.specs.Names.{has_none}
use Rattle.cat_scope.specs.Orders.{called_in, once}
use Rattle.cat_scope.specs.WellFormed.{is_internal}
use Rattle.cat_names.specs.declared.fault.Fault.{Fault}
use Rattle.cat_names.specs.declared.fault.Fault.TheVariants.{Misplaced}
use Rattle.cat_names.specs.Found.{Found, and_then, where_none, each_found, fault_if}
use Rattle.cat_names.specs.Lines.{Line, Declaration, Condition, Definition, Assertion, items_about, lines_found}
use Rattle.cat_names.specs.Lists.{numbered, clashing}

-- ---- how dates are rounded

-- how a line says that dates are rounded: up, or else down
abbrev pub use_rounds : Use → List (Pos × Bool)
use_rounds (uses.DateRound p up) = (p, up) ∷ []
use_rounds _ = []

-- how a block says it
abbrev pub item_rounds : Item → List (Pos × Bool)
item_rounds (item.Block b) = flat_map use_rounds b.uses
item_rounds _ = []

-- how the blocks of the scope of that number say it
abbrev pub rounds_in : Decls → ℕ → List Item → List (Pos × Bool)
rounds_in ds scope items = flat_map item_rounds (items_about ds scope items)

-- whether two say different ways
abbrev pub differ : Pos × Bool → Pos × Bool → Bool
differ r other = if r.1 then not other.1 else other.1

-- each that contradicts one in front of it
abbrev pub contradictions : List (Pos × Bool) → List Fault
contradictions rounds = map (λ r. Misplaced r.0) (clashing differ rounds)

-- how the dates of a scope are rounded
abbrev pub rounding_of : List (Pos × Bool) → Rounding
rounding_of [] = rounding.Refuse
rounding_of (r ∷ rs) = if r.1 then rounding.Up else rounding.Down

-- ---- bodies

-- a function that is not internal
abbrev pub outward_function : ItemDecl → List Fault
outward_function i = fault_if (not (has_none i.params || is_internal i.kind)) (Misplaced i.pos)

-- the definitions among some lines
abbrev pub defs_in : List Line → List Def
defs_in [] = []
defs_in (Definition d ∷ lines) = d ∷ defs_in lines
defs_in (_ ∷ lines) = defs_in lines

-- the assertions
abbrev pub assertions_in : List Line → List asserted.Assertion
assertions_in [] = []
assertions_in (Assertion a ∷ lines) = a ∷ assertions_in lines
assertions_in (_ ∷ lines) = assertions_in lines

-- which part of a source a line is
abbrev pub source_part : Line → SourcePart
source_part Declaration = part.Declaration
source_part (Condition e) = part.Condition e
source_part (Definition d) = part.Definition
source_part (Assertion a) = part.Assertion

-- a body whose items are not yet in order
pub record UnorderedBody : Type 0 where
  pub defs : List Def
  pub assertions : List asserted.Assertion
  pub source : List SourcePart
  pub rounding : Rounding
  pub calls : List ℕ

-- the body that some lines of a scope with these items are
abbrev pub body_of : List ItemDecl → Rounding → List Line → UnorderedBody
body_of items rounds lines = record {
  defs = defs_in lines;
  assertions = assertions_in lines;
  source = map source_part lines;
  rounding = rounds;
  calls = once [] (called_in items (map source_part lines) (defs_in lines) (assertions_in lines));
}

-- what a tree says of a scope, with its number
abbrev pub body_found : Decls → List Item → ℕ × Scope → Found UnorderedBody
body_found ds items scope =
    where_none (flat_map outward_function scope.1.items ++ contradictions (rounds_in ds scope.0 items))
    (and_then (lines_found (record { decls = ds; items = scope.1.items }) scope.0 items) (λ lines.
    Ok (body_of scope.1.items (rounding_of (rounds_in ds scope.0 items)) lines)))

-- what a tree with these declarations says of each of its scopes
abbrev pub bodies_meant : Decls → Tree → Found (List UnorderedBody)
bodies_meant ds tree = each_found (body_found ds tree.items) (numbered ds.scopes)
