-- The parts of an expression as the fold gives them: expressions, fields and arms.
use Rattle.std.proofs.Common.{◌≡◌, ℕ, List, [], ◌∷◌, ◌++◌, map, Option, Ok, Err}
use Rattle.std.proofs.Common.{Result, refl, ap, rules}
use Rattle.cat_value.specs.declared.value.Value.{Value}
use Rattle.cat_scope.specs.declared.expr.ArmPattern.{ArmPattern}
use Rattle.cat_scope.specs.declared.expr.Expr.{Expr}
use Rattle.cat_scope.specs.declared.expr.FieldValue.{FieldValue}
use Rattle.cat_scope.specs.declared.expr.Arm.{Arm}
use Rattle.cat_scope.specs.declared.expr.Expr.TheViews as expr
use Rattle.cat_scope.specs.declared.expr.Expr.TheFolds.{fold-FieldValue, fold_out-FieldValue}
use Rattle.cat_scope.specs.declared.expr.Expr.TheFolds.{fold-Arm, fold_out-Arm}
use Rattle.cat_scope.specs.declared.stop.Stop.{Stop}
use Rattle.cat_scope.specs.Runs.{Decider, Run, gives, behind, and_then, in_front}
use Rattle.cat_scope.specs.Eval.{Env, eval, meaning_of, field_meaning, arm_meaning}
use Rattle.cat_scope.specs.inside.EvalParts.{eval_all, eval_fields, eval_arms}
use Rattle.cat_scope.specs.Composed.{Meaning, all_of, field_values, arm_value, matched}

abbrev pub Field : Type 0
Field = ℕ × Meaning

abbrev pub Branch : Type 0
Branch = ArmPattern × Meaning

abbrev pub field : Env → FieldValue → Field
field env = fold-FieldValue Meaning Branch Field (meaning_of env) arm_meaning field_meaning

abbrev pub branch : Env → Arm → Branch
branch env = fold-Arm Meaning Branch Field (meaning_of env) arm_meaning field_meaning

pub all_is : (env : Env) (es : List Expr) (locals : List Value) → all_of (map (eval env) es) locals ≡ eval_all env es
    locals
all_is env [] locals = refl
all_is env (e ∷ es) locals = ap (in_front (eval env e locals)) (all_is env es locals)

pub field_is : (env : Env) (f : FieldValue) → field env f ≡ (f.field, eval env f.value)
unfolding eval
field_is env f =
    search (rules, expr.the_lemmas, fold_out-FieldValue Meaning Branch Field (meaning_of env) arm_meaning field_meaning)

pub fields_are : (env : Env) (fs : List FieldValue) (locals : List Value) → field_values (map (field env) fs) locals
    ≡ eval_fields env fs locals
fields_are env [] locals = refl
fields_are env (f ∷ fs) locals = rw (field_is env f)
    (ap (in_front (and_then (eval env f.value locals) (λ v. gives (f.field, v)))) (fields_are env fs locals))

pub branch_is : (env : Env) (a : Arm) → branch env a ≡ (a.pattern, eval env a.body)
unfolding eval
branch_is env a =
    search (rules, expr.the_lemmas, fold_out-Arm Meaning Branch Field (meaning_of env) arm_meaning field_meaning)

pub branches_are : (env : Env) (arms : List Arm) (k : ℕ) (content : Option Value) (locals : List Value)
    → matched (map (branch env) arms) k content locals ≡ eval_arms env arms k content locals
branches_are env [] k content locals = refl
branches_are env (a ∷ arms) k content locals =
    rw (branch_is env a) (ap (λ rest. arm_value a.pattern (eval env a.body) rest k content locals)
    (branches_are env arms k content locals))

behind_same : {A B : Type 0} (log : List Decider) (r : Result A Stop) (f g : A → Run B) → ((a : A) → f a ≡ g a)
    → behind log r f ≡ behind log r g
behind_same {B = B} log (Ok a) f g same = ap (λ (run : Run B). record { log = log ++ run.log; end = run.end }) (same a)
behind_same log (Err stop) f g same = refl

pub and_then_same : {A B : Type 0} (run : Run A) (f g : A → Run B) → ((a : A) → f a ≡ g a) → and_then run f ≡ and_then
    run g
and_then_same run f g same = behind_same run.log run.end f g same
