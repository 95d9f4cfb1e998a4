-- What the lines of a block mean: definitions, rules and assertions.
use Rattle.std.specs.Prelude.{ℕ, Bool, true, false, List, [], ◌∷◌, length, map, Option, Some, None, Ok}
use Rattle.cat_pos.specs.declared.pos.Pos.{Pos}
use Rattle.cat_value.specs.declared.ty.Ty.{Ty}
use Rattle.cat_value.specs.declared.ty.Ty.TheVariants as flat_ty
use Rattle.cat_tree.specs.declared.name.Name.{Name}
use Rattle.cat_tree.specs.declared.expression.Node.{Node}
use Rattle.cat_tree.specs.declared.program.Exception.{Exception}
use Rattle.cat_tree.specs.declared.program.Exception.TheVariants as exception
use Rattle.cat_tree.specs.declared.program.SurfaceLabel as written
use Rattle.cat_tree.specs.declared.program.Lead.{Lead}
use Rattle.cat_tree.specs.declared.program.TargetName.{TargetName}
use Rattle.cat_tree.specs.declared.program.Fulfilled.{Fulfilled}
use Rattle.cat_tree.specs.declared.program.Fulfilled.TheVariants as fulfilled
use Rattle.cat_scope.specs.declared.expr.Expr.{Expr}
use Rattle.cat_scope.specs.declared.expr.Expr.TheVariants as leaf
use Rattle.cat_scope.specs.declared.expr.Expr.TheViews as expr
use Rattle.cat_scope.specs.declared.expr.Literal.TheVariants as literal
use Rattle.cat_scope.specs.declared.defs.Label.{Label}
use Rattle.cat_scope.specs.declared.defs.Except.{Except}
use Rattle.cat_scope.specs.declared.defs.Except.TheVariants as except
use Rattle.cat_scope.specs.declared.defs.Def.{Def}
use Rattle.cat_scope.specs.declared.defs.Assertion.{Assertion}
use Rattle.cat_scope.specs.Names.{Names}
use Rattle.cat_names.specs.declared.fault.Fault.TheVariants.{Misplaced}
use Rattle.cat_names.specs.declared.typed.Typed.{Typed}
use Rattle.cat_names.specs.declared.typed.Local.{Local}
use Rattle.cat_names.specs.Found.{Found, and_then, both, where_true}
use Rattle.cat_names.specs.Operations.{as_expected}
use Rattle.cat_names.specs.Forms.{bound}
use Rattle.cat_names.specs.Aims.{Aim, aim_of}
use Rattle.cat_names.specs.Meaning.{meant}

-- ---- conditions

-- a boolean, of which no type is expected beforehand
abbrev pub boolean_of : Names → Node → List Local → Found Typed
boolean_of ns e locals = as_expected (Some flat_ty.Boolean) (meant ns e locals None)

-- a condition, where there is one
abbrev pub condition_meant : Names → Option Node → List Local → Found (Option Typed)
condition_meant ns None locals = Ok None
condition_meant ns (Some e) locals = and_then (boolean_of ns e locals) (λ x. Ok (Some x))

-- the condition of a block and that of a definition, joined by `and`, the block's on the left
abbrev pub conjunction : Option Typed → Option Typed → Option Expr
conjunction None None = None
conjunction (Some b) None = Some b.expr
conjunction None (Some c) = Some c.expr
conjunction (Some b) (Some c) = Some (expr.And b.first b.expr c.expr)

-- parameters under their names
abbrev pub named_params : List Name → List Ty → List Local
named_params (w ∷ ws) (t ∷ ts) = bound w t ∷ named_params ws ts
named_params _ _ = []

-- parameters as a block's condition has them: under empty names, since it doesn't know them. No word of a source is
-- empty: a token is the longest text of its form, and the words of names have a letter
abbrev pub nameless_params : List Ty → List Local
nameless_params types = map (λ t. record { name = []; ty = t }) types

-- the condition of a definition in a block with a condition of its own or none
abbrev pub whole_condition : Names → Option Node → Option Node → List Name → List Ty → Found (Option Expr)
whole_condition ns block c params types =
    both (condition_meant ns block (nameless_params types)) (condition_meant ns c (named_params params types))
    (λ b own. Ok (conjunction b own))

-- ---- definitions, rules and assertions

-- a label, where there is one
abbrev pub label_of : Option written.SurfaceLabel → Option Label
label_of None = None
label_of (Some l) = Some (record { text = l.name.text; pos = l.name.pos })

-- what a definition is an exception to
abbrev pub except_of : Exception → Except
except_of exception.No = except.No
except_of (exception.OnlyRoot p) = except.OnlyRoot p
except_of (exception.Labelled p l) = except.Named p (record { text = l.text; pos = l.pos })

-- a definition of its parts
abbrev pub def_of : Lead → Pos → Aim → Option Expr → Expr → Def
def_of l p aim c e = record {
  target = aim.target;
  label = label_of l.label;
  except = except_of l.exception;
  condition = c;
  consequence = e;
  params = length aim.params;
  pos = p;
}

-- a definition: the type of its target is expected of its consequence
abbrev pub definition_meant : Names → ℕ → Option Node → Lead → Pos → TargetName → Option Node → Node → Found Def
definition_meant ns scope block l p t c e =
    and_then (aim_of ns scope t) (λ aim.
    both (whole_condition ns block c t.params aim.params) (meant ns e (named_params t.params aim.params) (Some aim.ty))
    (λ condition x. Ok (def_of l p aim condition x.expr)))

-- what a rule says
abbrev pub is_fulfilled : Fulfilled → Bool
is_fulfilled fulfilled.Yes = true
is_fulfilled fulfilled.No = false

-- a rule: a definition of a condition variable as true or false
abbrev pub rule_meant : Names → ℕ → Option Node → Lead → Pos → TargetName → Option Node → Fulfilled → Found Def
rule_meant ns scope block l p t c f =
    and_then (aim_of ns scope t) (λ aim.
    both (where_true aim.condition (Misplaced p) (Ok aim)) (whole_condition ns block c t.params aim.params)
    (λ own condition. Ok (def_of l p own condition (leaf.Literal p (literal.Boolean (is_fulfilled f))))))

-- an assertion: a boolean, under no block's condition
abbrev pub assertion_meant : Names → Pos → Node → Found Assertion
assertion_meant ns p e = and_then (boolean_of ns e []) (λ x. Ok (record { condition = x.expr; keyword = p }))
