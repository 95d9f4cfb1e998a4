-- What a source says of a scope, line by line.
use Rattle.std.specs.Prelude.{ℕ, filter, nat_eq, Bool, false, List, [], ◌∷◌, ◌++◌, Option, Some, None, Ok}
use Rattle.cat_value.specs.declared.decls.Decls.{Decls}
use Rattle.cat_tree.specs.declared.name.Name.{Name}
use Rattle.cat_tree.specs.declared.expression.Node.{Node}
use Rattle.cat_tree.specs.declared.program.Use.{Use}
use Rattle.cat_tree.specs.declared.program.Use.TheVariants as uses
use Rattle.cat_tree.specs.declared.program.Block.{Block}
use Rattle.cat_tree.specs.declared.program.Item.{Item}
use Rattle.cat_tree.specs.declared.program.Item.TheVariants as item
use Rattle.cat_scope.specs.declared.expr.Expr.{Expr}
use Rattle.cat_scope.specs.declared.defs.Def.{Def}
use Rattle.cat_scope.specs.declared.defs.Assertion as asserted
use Rattle.cat_scope.specs.Names.{Names}
use Rattle.cat_names.specs.declared.typed.Typed.{Typed}
use Rattle.cat_names.specs.Found.{Found, and_then, both}
use Rattle.cat_names.specs.Lookup.{scope_named}
use Rattle.cat_names.specs.Definitions.{condition_meant, definition_meant, rule_meant, assertion_meant}

-- what a source says of a scope, in its order
pub data Line : Type 0 where
  Declaration : Line
  Condition : Expr → Line
  Definition : Def → Line
  Assertion : asserted.Assertion → Line

-- one line
abbrev pub one : Line → List Line
one line = line ∷ []

-- a line of a block, under the condition of the block
abbrev pub use_lines : Names → ℕ → Option Node → Use → Found (List Line)
use_lines ns scope block (uses.Definition l p t c e) =
    and_then (definition_meant ns scope block l p t c e) (λ d. Ok (one (Definition d)))
use_lines ns scope block (uses.Rule l p t c f) =
    and_then (rule_meant ns scope block l p t c f) (λ d. Ok (one (Definition d)))
use_lines ns scope block (uses.Assertion p e) = and_then (assertion_meant ns p e) (λ a. Ok (one (Assertion a)))
use_lines ns scope block (uses.DateRound p up) = Ok []

-- the lines of each of some things, one behind another
abbrev pub all_lines : {A : Type 0} → (A → Found (List Line)) → List A → Found (List Line)
all_lines f [] = Ok []
all_lines f (x ∷ xs) = both (f x) (all_lines f xs) (λ lines more. Ok (lines ++ more))

-- the condition of a block, where it has one
abbrev pub condition_lines : Option Typed → List Line
condition_lines None = []
condition_lines (Some x) = one (Condition x.expr)

-- a block: its condition, which knows no parameters, and then its lines
abbrev pub block_lines : Names → ℕ → Block → Found (List Line)
block_lines ns scope b = both (condition_meant ns b.condition []) (all_lines (use_lines ns scope b.condition) b.uses)
    (λ x lines. Ok (condition_lines x ++ lines))

-- whether something was found that has this number
abbrev pub is_number : {A : Type 0} → ℕ → Option (ℕ × A) → Bool
is_number n None = false
is_number n (Some found) = nat_eq found.0 n

-- whether a name names the scope of that number
abbrev pub is_scope_name : Decls → ℕ → Name → Bool
is_scope_name ds scope w = is_number scope (scope_named w.text ds.scopes)

-- whether a declaration or a block is one of the scope of that number
abbrev pub is_about : Decls → ℕ → Item → Bool
is_about ds scope (item.Scope p u variables) = is_scope_name ds scope u
is_about ds scope (item.Block b) = is_scope_name ds scope b.name
is_about ds scope _ = false

-- the declaration and the blocks of the scope of that number, in source order
abbrev pub items_about : Decls → ℕ → List Item → List Item
items_about ds scope items = filter (is_about ds scope) items

-- what a declaration or a block says of its scope
abbrev pub item_lines : Names → ℕ → Item → Found (List Line)
item_lines ns scope (item.Scope p u variables) = Ok (one Declaration)
item_lines ns scope (item.Block b) = block_lines ns scope b
item_lines ns scope _ = Ok []

-- what a source says of the scope of that number
abbrev pub lines_found : Names → ℕ → List Item → Found (List Line)
lines_found ns scope items = all_lines (item_lines ns scope) (items_about ns.decls scope items)
