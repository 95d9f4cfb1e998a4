-- The condition of a block, which its definitions share, and those that join their own to it.
use Rattle.std.specs.Prelude.{◌≡◌, List, Option, None, Some, Ok}
use Rattle.cat_value.specs.declared.ty.Ty.{Ty}
use Rattle.cat_tree.specs.declared.name.Name.{Name}
use Rattle.cat_tree.specs.declared.expression.Node.{Node}
use Rattle.cat_scope.specs.declared.expr.Expr.{Expr}
use Rattle.cat_scope.specs.declared.expr.Expr.TheViews as expr
use Rattle.cat_scope.specs.Names.{AllHave, Names}
use Rattle.cat_names.specs.declared.typed.Typed.{Typed}
use Rattle.cat_names.specs.Definitions.{condition_meant, named_params, nameless_params}
use Rattle.cat_names.specs.Found.{Found, and_then}
use Rattle.cat_check_exprs.specs.declared.known.BlockCondition.{BlockCondition}
use Rattle.cat_check_exprs.specs.declared.known.KnownCondition.{KnownCondition}

-- what a block's condition has to be known by, where there is one
abbrev pub block_part : Option Typed → Option BlockCondition
block_part None = None
block_part (Some b) = Some (record { first = b.first; expr = b.expr })

-- the condition of a block, as definitions with parameters of these types have it
abbrev pub block_found : Names → Option Node → List Ty → Found (Option BlockCondition)
block_found ns block types = and_then (condition_meant ns block (nameless_params types)) (λ b. Ok (block_part b))

-- each is the condition of a block as definitions with parameters of its types have it
abbrev pub AreKnown : Names → Option Node → List KnownCondition → Type 0
AreKnown ns block known = AllHave (λ c. block_found ns block c.types ≡ Ok c.condition) known

-- the condition of a block and that of a definition, joined by `and`, the block's on the left
abbrev pub joined : Option BlockCondition → Option Typed → Option Expr
joined None None = None
joined None (Some own) = Some own.expr
joined (Some b) None = Some b.expr
joined (Some b) (Some own) = Some (expr.And b.first b.expr own.expr)

-- the condition of a definition with these parameters, behind that of its block
abbrev pub own_found : Names → Option BlockCondition → Option Node → List Name → List Ty → Found (Option Expr)
own_found ns block own params types =
    and_then (condition_meant ns own (named_params params types)) (λ c. Ok (joined block c))
