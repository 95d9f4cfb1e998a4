-- The parts of an expression, evaluated as lists of expressions, fields and arms.
use Rattle.std.specs.Prelude.{ℕ, List, [], ◌∷◌, Option}
use Rattle.cat_value.specs.declared.value.Value.{Value}
use Rattle.cat_scope.specs.declared.stop.Stop.TheVariants.{Stuck}
use Rattle.cat_scope.specs.declared.expr.Expr.{Expr}
use Rattle.cat_scope.specs.declared.expr.FieldValue.{FieldValue}
use Rattle.cat_scope.specs.declared.expr.Arm.{Arm}
use Rattle.cat_scope.specs.Runs.{Run, gives, stops, and_then, in_front}
use Rattle.cat_scope.specs.Composed.{arm_value}
use Rattle.cat_scope.specs.Eval.{Env, eval}

-- the values of some expressions, from the left
abbrev pub eval_all : Env → List Expr → List Value → Run (List Value)
eval_all env [] locals = gives []
eval_all env (e ∷ es) locals = in_front (eval env e locals) (eval_all env es locals)

-- the values of some fields, in written order
abbrev pub eval_fields : Env → List FieldValue → List Value → Run (List (ℕ × Value))
eval_fields env [] locals = gives []
eval_fields env (f ∷ fs) locals =
    in_front (and_then (eval env f.value locals) (λ v. gives (f.field, v))) (eval_fields env fs locals)

-- the first arm that is for the case
abbrev pub eval_arms : Env → List Arm → ℕ → Option Value → List Value → Run Value
eval_arms env [] k content locals = stops Stuck
eval_arms env (a ∷ arms) k content locals =
    arm_value a.pattern (eval env a.body) (eval_arms env arms k content locals) k content locals
