-- Programs for the examples, written out with the positions of their sources.
use Rattle.std.proofs.Common.{ℕ, pos, true, false, List, [], ◌∷◌, Option, None, Some}
use Rattle.cat_pos.specs.Position.{pos_of}
use Rattle.cat_pos.specs.declared.pos.Pos.{Pos}
use Rattle.cat_date.specs.declared.rounding.Rounding.TheVariants.{Refuse}
use Rattle.cat_value.specs.declared.ty.Ty.TheVariants as ty
use Rattle.cat_value.specs.declared.declaration.Kind.{Kind}
use Rattle.cat_value.specs.declared.declaration.Kind.TheVariants as kind
use Rattle.cat_value.specs.declared.declaration.ItemDecl.{ItemDecl}
use Rattle.cat_value.specs.declared.declaration.Scope.{Scope}
use Rattle.cat_value.specs.declared.outcome.Target.{Target}
use Rattle.cat_scope.specs.declared.expr.Expr.{Expr}
use Rattle.cat_scope.specs.declared.expr.Expr.TheVariants as leaf
use Rattle.cat_scope.specs.declared.expr.Expr.TheViews as expr
use Rattle.cat_scope.specs.declared.expr.Literal.TheVariants as literal
use Rattle.cat_scope.specs.declared.operators.BinaryOp.TheVariants.{Greater, DivideIntegers, Less, MultiplyIntegers}
use Rattle.cat_scope.specs.declared.defs.Label.{Label}
use Rattle.cat_scope.specs.declared.defs.Except.{Except}
use Rattle.cat_scope.specs.declared.defs.Except.TheVariants as except
use Rattle.cat_scope.specs.declared.defs.Def.{Def}
use Rattle.cat_scope.specs.declared.defs.SourcePart.{SourcePart}
use Rattle.cat_scope.specs.declared.defs.SourcePart.TheVariants.{Declaration, Definition}
use Rattle.cat_scope.specs.declared.defs.Body.{Body}

abbrev pub at : ℕ → ℕ → Pos
at l c = pos_of 0 l c

-- labels, each one letter
abbrev pub a : Pos → Label
a p = record { text = 97 ∷ []; pos = p }

abbrev pub b : Pos → Label
b p = record { text = 98 ∷ []; pos = p }

abbrev pub variable : ℕ → ℕ → Target
variable scope item = record { scope = scope; item = item; inner = None }

-- items of integers, and of another type
abbrev pub item : Kind → Pos → ItemDecl
item k p = record { name = []; pos = p; kind = k; ty = ty.Integer; condition = false; params = [] }

abbrev pub truth_item : Kind → Pos → ItemDecl
truth_item k p = record { name = []; pos = p; kind = k; ty = ty.Boolean; condition = false; params = [] }

abbrev pub condition_item : Kind → Pos → ItemDecl
condition_item k p = record { name = []; pos = p; kind = k; ty = ty.Boolean; condition = true; params = [] }

-- lines 3 and 4: `input n content integer` and `output x content integer`
abbrev pub n_in : ItemDecl
n_in = item kind.Input (at 3 9)

abbrev pub x_out : ItemDecl
x_out = item kind.Output (at 4 10)

abbrev pub whole : ℕ → Expr
whole n = leaf.Literal (at 0 0) (literal.Integer (pos n))

abbrev pub n : Expr
n = leaf.Item (at 0 0) 0

-- `n > k`
abbrev pub n_above : ℕ → Expr
n_above k = expr.Binary (at 0 0) Greater (at 0 0) n (whole k)

-- `1 / n > 1.0`, with the position of the `/`
abbrev pub per_n_above_one : Pos → Expr
per_n_above_one p = expr.Binary (at 0 0) Greater (at 0 0) (expr.Binary (at 0 0) DivideIntegers p (whole 1) n)
    (leaf.Literal (at 0 0) (literal.Decimal (record { digits = 10; places = 1 })))

-- `1 month < 31 day`, with the position of the `<`
abbrev pub one_month_below_31_days : Pos → Expr
one_month_below_31_days p =
    expr.Binary (at 0 0) Less p (leaf.Literal (at 0 0) (literal.Duration (record { months = pos 1; days = pos 0 })))
    (leaf.Literal (at 0 0) (literal.Duration (record { months = pos 0; days = pos 31 })))

abbrev pub def : Target → Option Label → Except → Option Expr → Expr → Pos → Def
def target label e condition consequence p =
    record {
      target = target;
      label = label;
      except = e;
      condition = condition;
      consequence = consequence;
      params = 0;
      pos = p;
    }

-- a declaration, and then definitions
abbrev pub definitions_of : List Def → List SourcePart
definitions_of [] = []
definitions_of (d ∷ ds) = Definition ∷ definitions_of ds

abbrev pub source_of : List Def → List SourcePart
source_of defs = Declaration ∷ definitions_of defs

-- the body of a scope that calls some scopes, and of one that calls none
abbrev pub body_calling : List ℕ → List Def → List ℕ → Body
body_calling calls defs order =
    record { defs = defs; assertions = []; source = source_of defs; rounding = Refuse; order = order; calls = calls }

abbrev pub body : List Def → List ℕ → Body
body defs order = body_calling [] defs order

abbrev pub x : Target
x = variable 0 1

-- an exception, and an exception to it
abbrev pub chain : List Def
chain =
    def x (Some (a (at 6 9))) except.No None (whole 1) (at 6 11) ∷
    def x (Some (b (at 7 9))) (except.Named (at 7 11) (a (at 7 21))) (Some (n_above 0)) (whole 2) (at 7 23) ∷
    def x None (except.Named (at 8 3) (b (at 8 13))) (Some (n_above 1)) (whole 3) (at 8 15) ∷ []

-- two exceptions to one definition
abbrev pub forked : List Def
forked =
    def x (Some (a (at 6 9))) except.No None (whole 1) (at 6 11) ∷
    def x (Some (b (at 7 9))) (except.Named (at 7 11) (a (at 7 21))) (Some (n_above 0)) (whole 2) (at 7 23) ∷
    def x None (except.Named (at 8 3) (a (at 8 13))) (Some (n_above 1)) (whole 3) (at 8 15) ∷ []

abbrev pub scope_of : List ItemDecl → Scope
scope_of items = record { name = []; items = items }

-- T has the context x, which is 7 by itself; S calls T as t, gives it n as x where n > 0, and gives t.x as y
abbrev pub calling_scopes : List Scope
calling_scopes = scope_of (item kind.ContextOutput (at 4 18) ∷ []) ∷ scope_of
    (n_in ∷ truth_item (kind.Called 0) (at 7 3) ∷ item kind.Output (at 8 10) ∷ []) ∷ []

abbrev pub calling_bodies : List Body
calling_bodies =
    body (def (variable 0 0) None except.No None (whole 7) (at 10 3) ∷ []) (0 ∷ [])
    ∷ body_calling (0 ∷ []) (def (record { scope = 1; item = 1; inner = Some 0 }) None except.No (Some (n_above 0)) n
    (at 12 3)
    ∷ def (variable 1 2) None except.No None (leaf.Output (at 13 23) 1 0) (at 13 3) ∷ []) (0 ∷ 1 ∷ 2 ∷ []) ∷ []

-- T has the input a and the output b, which is twice a where a > 0; S calls it inside a definition, with n as a
abbrev pub nested_scopes : List Scope
nested_scopes = scope_of (item kind.Input (at 3 9) ∷ item kind.Output (at 4 10) ∷ []) ∷ scope_of
    (item kind.Input (at 6 9) ∷ item kind.Output (at 7 10) ∷ []) ∷ []

abbrev pub nested_bodies : List Body
nested_bodies =
    body (def (variable 0 1) None except.No (Some (n_above 0))
    (expr.Binary (at 9 57) MultiplyIntegers (at 9 59) n (whole 2)) (at 9 3) ∷ []) (0 ∷ 1 ∷ [])
    ∷ body_calling (0 ∷ [])
    (def (variable 1 1) None except.No None (expr.ScopeCall (at 11 23) 0 (record { field = 0; value = n } ∷ []) 0)
    (at 11 3) ∷ []) (0 ∷ 1 ∷ []) ∷ []
