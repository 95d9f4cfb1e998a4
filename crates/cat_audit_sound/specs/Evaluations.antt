-- What an evaluation says, how it answers questions, and which valuation the judging of a target has.
use Rattle.std.specs.Prelude.{ℕ, zero, suc, nat_eq, Bool, false, List, [], ◌∷◌, Option, Some, None, Result, Ok, Err}
use Rattle.std.specs.Prelude.{slice_get, if◌then◌else◌}
use Rattle.cat_value.specs.declared.value.Value.{Value}
use Rattle.cat_value.specs.declared.value.Value.TheVariants.{Boolean}
use Rattle.cat_region.specs.declared.point.Point.{Point}
use Rattle.cat_region.specs.declared.point.Point.TheVariants.{Truth}
use Rattle.cat_region.specs.Points.{answer}
use Rattle.cat_region.specs.Regions.{Valuation}
use Rattle.cat_scope.specs.declared.stop.Stop.{Stop}
use Rattle.cat_scope.specs.declared.expr.Expr.{Expr}
use Rattle.cat_scope.specs.Replies.{Reply}
use Rattle.cat_scope.specs.Projections.{truth}
use Rattle.cat_scope.specs.Eval.{Env, eval}
use Rattle.cat_guard.specs.declared.table.Term.{Term}
use Rattle.cat_guard.specs.Questions.{Question}
use Rattle.cat_guard.specs.PointValues.{point_at}

-- the truth value, where there is one
abbrev pub told : Result Bool Stop → Option Bool
told (Ok b) = Some b
told (Err stop) = None

-- the truth value that a reply is, where it is one
abbrev pub says : Reply → Option Bool
says (Ok value) = told (truth value)
says (Err stop) = None

-- the answer to a question by what its term evaluates to, or by the default where it has no value
abbrev pub answered : (Expr → Reply) → Question → Bool
answered value q = answer q.cut (point_at q.dim (value q.expr))

-- so many values, which don't matter
abbrev pub any_values : ℕ → List Value
any_values zero = []
any_values (suc n) = Boolean false ∷ any_values n

-- the arguments with which a term is evaluated at the judging of a target of an item: those of the judging, where the
-- term's parameters are those of that item; else the term has no parameters that the target's guards could name
abbrev pub arguments_for : ℕ → List Value → Term → List Value
arguments_for item arguments term = if nat_eq term.function item then arguments else any_values term.params

-- the point of a term, where there is one
abbrev pub term_point : Env → ℕ → List Value → Option Term → Point
term_point env item arguments None = Truth false
term_point env item arguments (Some term) =
    point_at term.dim (eval env term.expr (arguments_for item arguments term)).end

-- the valuation of the judging of a target of an item, with some arguments, in an environment: each term has the point
-- of what it evaluates to, or the default where it has no value
abbrev pub valuation_of : Env → List Term → ℕ → List Value → Valuation
valuation_of env terms item arguments i = term_point env item arguments (slice_get terms i)
