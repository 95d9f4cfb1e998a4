-- Names of a tree that need a type to be found: fields, cases, outputs of called scopes, what a scope call gives and
-- takes, and the inner part of a target. One line a form.
use Rattle.std.specs.Prelude.{List, [], ◌∷◌, ◌++◌, map, flat_map, Option, option_to_list}
use Rattle.cat_pos.specs.declared.pos.Pos.{Pos}
use Rattle.cat_tree.specs.declared.name.CaseName.{CaseName}
use Rattle.cat_tree.specs.declared.name.CaseName.TheVariants as case
use Rattle.cat_tree.specs.declared.expression.Pattern.{Pattern}
use Rattle.cat_tree.specs.declared.expression.Pattern.TheVariants as pattern
use Rattle.cat_tree.specs.declared.expression.Node.{Node}
use Rattle.cat_tree.specs.declared.expression.Node.TheOpen.{Node-F, SurfaceArm-F, SurfaceField-F}
use Rattle.cat_tree.specs.declared.expression.Node.TheFolds.{fold-Node}
use Rattle.cat_tree.specs.declared.program.TargetName.{TargetName}
use Rattle.cat_tree.specs.declared.program.Use.{Use}
use Rattle.cat_tree.specs.declared.program.Use.TheVariants as uses
use Rattle.cat_tree.specs.declared.program.Item.{Item}
use Rattle.cat_tree.specs.declared.program.Item.TheVariants as item
use Rattle.cat_tree.specs.declared.program.Tree.{Tree}
use Rattle.cat_scope.specs.Names.{Names}
use Rattle.cat_names.specs.Lookup.{type_names}
use Rattle.cat_names.specs.Unknown.{Known}

-- what names may name: the declared types and scopes, and the items of the scope at hand
abbrev pub known_of : Names → Known
known_of ns = record {
  types = type_names ns.decls;
  scopes = map (λ s. s.name) ns.decls.scopes;
  items = map (λ i. i.name) ns.items;
}

-- the position of a case, without its enumeration
abbrev pub case_position : CaseName → Pos
case_position (case.Bare c) = c.pos
case_position (case.Qualified u c) = c.pos

-- that of the case that a pattern names
abbrev pub pattern_positions : Pattern → List Pos
pattern_positions (pattern.Case c w) = case_position c ∷ []
pattern_positions pattern.Anything = []

-- positions of the parts of an expression, from the left
abbrev pub all_positions : List (List Pos) → List Pos
all_positions parts = flat_map (λ positions. positions) parts

-- an expression, where each part tells its own
abbrev pub typed_names_of : Node-F (List Pos) (List Pos) (List Pos) → List Pos
typed_names_of (Node-F.Literal l p) = []
typed_names_of (Node-F.Name w) = []
typed_names_of (Node-F.Case c) = case_position c ∷ []
typed_names_of (Node-F.Parens p e) = e
typed_names_of (Node-F.Field e w) = w.pos ∷ e
typed_names_of (Node-F.Prefixed o p e) = e
typed_names_of (Node-F.Sum p t l) = l
typed_names_of (Node-F.Content c e) = case_position c ∷ e
typed_names_of (Node-F.Call w args) = all_positions args
typed_names_of (Node-F.Binary o p a b) = a ++ b
typed_names_of (Node-F.Test e p c) = case_position c ∷ e
typed_names_of (Node-F.List p es) = all_positions es
typed_names_of (Node-F.Structure u fields) = all_positions fields
typed_names_of (Node-F.ScopeCall p u fields w) = w.pos ∷ all_positions fields
typed_names_of (Node-F.If p c a b) = c ++ a ++ b
typed_names_of (Node-F.Match p e arms) = e ++ all_positions arms
typed_names_of (Node-F.Each k p w l e) = l ++ e
typed_names_of (Node-F.Combine c l s e) = l ++ s ++ e

-- an arm: the case of its pattern, and its body
abbrev pub arm_positions : SurfaceArm-F (List Pos) (List Pos) (List Pos) → List Pos
arm_positions a = pattern_positions a.pattern ++ a.body

-- a field of a literal or of a scope call: its name, and its value
abbrev pub field_positions : SurfaceField-F (List Pos) (List Pos) (List Pos) → List Pos
field_positions f = f.name.pos ∷ f.value

-- the positions of the names in an expression that need a type
unfoldable pub typed_names : Node → List Pos
typed_names = fold-Node (List Pos) (List Pos) (List Pos) typed_names_of arm_positions field_positions

-- those of a condition, where there is one
abbrev pub condition_typed_names : Option Node → List Pos
condition_typed_names c = flat_map typed_names (option_to_list c)

-- that of the inner part of a target
abbrev pub target_typed_names : TargetName → List Pos
target_typed_names t = map (λ y. y.pos) (option_to_list t.inner)

-- those of a line of a block
abbrev pub use_typed_names : Use → List Pos
use_typed_names (uses.Definition l p t c e) = target_typed_names t ++ condition_typed_names c ++ typed_names e
use_typed_names (uses.Rule l p t c f) = target_typed_names t ++ condition_typed_names c
use_typed_names (uses.Assertion p e) = typed_names e
use_typed_names (uses.DateRound p up) = []

-- those of a block
abbrev pub item_typed_names : Item → List Pos
item_typed_names (item.Block b) = condition_typed_names b.condition ++ flat_map use_typed_names b.uses
item_typed_names _ = []

-- those of a tree
abbrev pub typed_names_in : Tree → List Pos
typed_names_in tree = flat_map item_typed_names tree.items
