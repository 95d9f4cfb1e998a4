-- What an expression gives: one line for each form. It is evaluated from left to right, and the first stop ends it.
use Rattle.std.specs.Prelude.{ℕ, pos, true, false, List, [], ◌∷◌, ◌++◌, length, Option, Some, None, Ok, slice_get}
use Rattle.std.specs.Prelude.{nat_eq}
use Rattle.cat_date.specs.declared.rounding.Rounding.{Rounding}
use Rattle.cat_value.specs.declared.value.Value.{Value}
use Rattle.cat_value.specs.declared.value.Value.TheVariants as flat
use Rattle.cat_value.specs.declared.value.Value.TheViews as value
use Rattle.cat_scope.specs.declared.expr.ArmPattern.{ArmPattern}
use Rattle.cat_scope.specs.declared.expr.Expr.{Expr}
use Rattle.cat_scope.specs.declared.expr.Expr.TheOpen.{Expr-F, FieldValue-F, Arm-F}
use Rattle.cat_scope.specs.declared.expr.Expr.TheFolds.{fold-Expr}
use Rattle.cat_scope.specs.Replies.{on_one, known, evaluated}
use Rattle.cat_scope.specs.Runs.{Run, plain, gives, and_then, giving, choose}
use Rattle.cat_scope.specs.Projections.{case_of}
use Rattle.cat_scope.specs.Operators.{convert, operate}
use Rattle.cat_scope.specs.Lists.{for_all, exists, mapped, filtered, combined, contained, zero_of, summed}
use Rattle.cat_scope.specs.Composed.{Meaning, literal_value, part, all_of, field_values, structured, matched}
use Rattle.cat_scope.specs.Composed.{listed}

-- what an expression stands in: what becomes of a day that its month lacks, the values of the items that are done, what
-- a function gives for its arguments, and what an output of a scope is for some of its items
pub record Env : Type 0 where
  pub rounding : Rounding
  pub items : List (Option Value)
  pub call : ℕ → List Value → Run Value
  pub scope_call : ℕ → List (ℕ × Value) → ℕ → Run Value

-- an expression's value, where each part has its meaning in its place
abbrev pub meaning_of : Env → Expr-F Meaning (ArmPattern × Meaning) (ℕ × Meaning) → Meaning
meaning_of env (Expr-F.Literal p l) locals = gives (literal_value l)
meaning_of env (Expr-F.Item p item) locals = plain (evaluated (slice_get env.items item))
meaning_of env (Expr-F.Output p item k) locals = plain (on_one (evaluated (slice_get env.items item)) (part k))
meaning_of env (Expr-F.Local p k) locals = plain (known (slice_get locals k))
meaning_of env (Expr-F.Field p e k) locals = giving (e locals) (part k)
meaning_of env (Expr-F.Unary p o e) locals = giving (e locals) (convert o p)
meaning_of env (Expr-F.Binary p o at a b) locals =
    and_then (a locals) (λ v. giving (b locals) (operate env.rounding o at v))
meaning_of env (Expr-F.And p a b) locals = and_then (a locals) (λ v. choose v (b locals) (gives (flat.Boolean false)))
meaning_of env (Expr-F.Or p a b) locals = and_then (a locals) (λ v. choose v (gives (flat.Boolean true)) (b locals))
meaning_of env (Expr-F.If p c a b) locals = and_then (c locals) (λ v. choose v (a locals) (b locals))
meaning_of env (Expr-F.Match p e arms) locals =
    and_then (e locals) (λ v. and_then (plain (case_of v)) (λ c. matched arms c.0 c.1 locals))
meaning_of env (Expr-F.IsCase p e n k) locals =
    giving (e locals) (λ v. on_one (case_of v) (λ c. Ok (flat.Boolean (nat_eq c.0 k))))
meaning_of env (Expr-F.Case p n k None) locals = gives (value.Case k None)
meaning_of env (Expr-F.Case p n k (Some e)) locals = and_then (e locals) (λ v. gives (value.Case k (Some v)))
meaning_of env (Expr-F.Structure p n fields) locals = giving (field_values fields locals) structured
meaning_of env (Expr-F.List p es) locals = and_then (all_of es locals) (λ vs. gives (value.List vs))
meaning_of env (Expr-F.ForAll p l test) locals = and_then (listed l locals) (for_all (λ v. test (locals ++ v ∷ [])))
meaning_of env (Expr-F.Exists p l test) locals = and_then (listed l locals) (exists (λ v. test (locals ++ v ∷ [])))
meaning_of env (Expr-F.Map p l e) locals =
    and_then (listed l locals)
    (λ vs. and_then (mapped (λ v. e (locals ++ v ∷ [])) vs) (λ ws. gives (value.List ws)))
meaning_of env (Expr-F.Filter p l test) locals =
    and_then (listed l locals)
    (λ vs. and_then (filtered (λ v. test (locals ++ v ∷ [])) vs) (λ ws. gives (value.List ws)))
meaning_of env (Expr-F.Combine p l start e) locals =
    and_then (listed l locals)
    (λ vs. and_then (start locals) (combined (λ v total. e (locals ++ v ∷ total ∷ [])) vs))
meaning_of env (Expr-F.Contains p at l e) locals =
    and_then (listed l locals) (λ vs. giving (e locals) (λ v. contained at v vs))
meaning_of env (Expr-F.Length p l) locals = and_then (listed l locals) (λ vs. gives (flat.Integer (pos (length vs))))
meaning_of env (Expr-F.Sum p kind l) locals = giving (listed l locals) (λ vs. summed kind p vs (zero_of kind))
meaning_of env (Expr-F.Call p f es) locals = and_then (all_of es locals) (env.call f)
meaning_of env (Expr-F.ScopeCall p s fields k) locals =
    and_then (field_values fields locals) (λ fs. env.scope_call s fs k)

-- a field with its number
abbrev pub field_meaning : FieldValue-F Meaning (ArmPattern × Meaning) (ℕ × Meaning) → ℕ × Meaning
field_meaning f = (f.field, f.value)

-- an arm with what it is for
abbrev pub arm_meaning : Arm-F Meaning (ArmPattern × Meaning) (ℕ × Meaning) → ArmPattern × Meaning
arm_meaning a = (a.pattern, a.body)

-- what an expression gives in an environment
unfoldable pub eval : Env → Expr → Meaning
eval env = fold-Expr Meaning (ArmPattern × Meaning) (ℕ × Meaning) (meaning_of env) arm_meaning field_meaning
