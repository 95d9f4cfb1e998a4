-- Worked examples of terms: each is written out, and what it comes to is computed.
use Rattle.std.proofs.Common.{◌≡◌, ℕ, pos, false, List, [], ◌∷◌, None, Some, Result, Ok, rules}
use Rattle.cat_pos.specs.Position.{pos_of}
use Rattle.cat_pos.specs.declared.pos.Pos.{Pos}
use Rattle.cat_date.specs.declared.rounding.Rounding.TheVariants.{Refuse}
use Rattle.cat_value.specs.declared.value.Value.{Value}
use Rattle.cat_value.specs.declared.value.Value.TheVariants as flat
use Rattle.cat_value.specs.declared.value.Value.TheViews as value
use Rattle.cat_value.specs.declared.declaration.ItemDecl.{ItemDecl}
use Rattle.cat_value.specs.declared.declaration.Kind.TheVariants as kind
use Rattle.cat_value.specs.declared.ty.Ty.TheVariants as ty
use Rattle.cat_scope.specs.declared.expr.Expr.{Expr}
use Rattle.cat_scope.specs.declared.expr.Expr.TheVariants as leaf
use Rattle.cat_scope.specs.declared.expr.Expr.TheViews as expr
use Rattle.cat_scope.specs.declared.expr.Literal.TheVariants as literal
use Rattle.cat_scope.specs.declared.operators.BinaryOp.TheVariants.{Greater, DivideIntegers}
use Rattle.cat_scope.specs.declared.stop.Stop.{Stop}
use Rattle.cat_scope.proofs.Exported.{equations}
use Rattle.cat_calc.specs.declared.term.Justification.TheVariants.{Never, Always, Where}
use Rattle.cat_calc.specs.declared.term.DefaultTerm.{DefaultTerm}
use Rattle.cat_calc.specs.declared.term.DefaultTerm.TheVariants as term
use Rattle.cat_calc.specs.declared.term.DefaultTerm.TheViews as default
use Rattle.cat_calc.specs.declared.calcs.CalcScope.{CalcScope}
use Rattle.cat_calc.specs.Calculus.{run_of_terms}
use Rattle.cat_calc.proofs.Equations.{reductions}

abbrev pub at : ℕ → ℕ → Pos
at l c = pos_of 0 l c

abbrev whole : ℕ → Expr
whole n = leaf.Literal (at 0 0) (literal.Integer (pos n))

abbrev n : Expr
n = leaf.Item (at 0 0) 0

-- `n > k`
abbrev n_above : ℕ → Expr
n_above k = expr.Binary (at 0 0) Greater (at 0 0) n (whole k)

-- `1 / n > 1.0`, with the position of the `/`
abbrev per_n_above_one : Pos → Expr
per_n_above_one p = expr.Binary (at 0 0) Greater (at 0 0) (expr.Binary (at 0 0) DivideIntegers p (whole 1) n)
    (leaf.Literal (at 0 0) (literal.Decimal (record { digits = 10; places = 1 })))

-- a definition that always holds, and one under a condition
abbrev always : ℕ → Pos → Expr → DefaultTerm
always number p e = default.Default [] Always (term.Consequence number p e)

abbrev under : ℕ → Pos → Expr → Expr → DefaultTerm
under number p condition e = default.Default [] (Where condition) (term.Consequence number p e)

-- a list of terms, of which one alone may hold
abbrev listed : List DefaultTerm → DefaultTerm
listed terms = default.Default terms Never term.Empty

-- a group with the groups that except it
abbrev group : List DefaultTerm → List DefaultTerm → DefaultTerm
group exceptions own = default.Default exceptions Always (listed own)

abbrev x_of : DefaultTerm → CalcScope
x_of x = record {
  rounding = Refuse;
  order = 0 ∷ 1 ∷ [];
  terms = record { own = term.Empty; inner = [] } ∷ record { own = x; inner = [] } ∷ [];
  assertions = [];
}

abbrev n_in : ItemDecl
n_in = record { name = []; pos = at 3 9; kind = kind.Input; ty = ty.Integer; condition = false; params = [] }

abbrev x_out : ItemDecl
x_out = record { name = []; pos = at 4 10; kind = kind.Output; ty = ty.Integer; condition = false; params = [] }

-- a scope with the input n and the output x, on k
abbrev alone : DefaultTerm → ℕ → Result (List Value) Stop
alone x k =
    (run_of_terms (record { name = []; items = n_in ∷ x_out ∷ [] } ∷ []) (x_of x ∷ []) (0 ∷ []) 0
    (Some (flat.Integer (pos k)) ∷ None ∷ [])).end

abbrev gives : ℕ → Result (List Value) Stop
gives k = Ok (flat.Integer (pos k) ∷ [])

-- an exception, and an exception to it
abbrev chain : DefaultTerm
chain = listed (group
    (group (group [] (under 2 (at 8 15) (n_above 1) (whole 3) ∷ []) ∷ []) (under 1 (at 7 23) (n_above 0) (whole 2) ∷ [])
    ∷ []) (always 0 (at 6 11) (whole 1) ∷ []) ∷ [])

the_exception_of_an_exception_holds : alone chain 2 ≡ gives 3
unfolding run_of_terms
the_exception_of_an_exception_holds = search (rules, equations, reductions, value.the_lemmas)

the_exception_holds : alone chain 1 ≡ gives 2
unfolding run_of_terms
the_exception_holds = search (rules, equations, reductions, value.the_lemmas)

the_base_holds : alone chain 0 ≡ gives 1
unfolding run_of_terms
the_base_holds = search (rules, equations, reductions, value.the_lemmas)
