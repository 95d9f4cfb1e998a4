-- The guard of an expression by its form, and the formula of each guard.
use Rattle.std.proofs.Common.{◌≡◌, ℕ, Bool, ap, ◌∙◌, rules}
use Rattle.cat_value.specs.declared.decls.Decls.{Decls}
use Rattle.cat_scope.specs.declared.expr.Expr.{Expr}
use Rattle.cat_scope.specs.declared.expr.Arm.{Arm}
use Rattle.cat_scope.specs.declared.expr.FieldValue.{FieldValue}
use Rattle.cat_scope.specs.declared.expr.Expr.TheOpen.{Expr-F}
use Rattle.cat_scope.specs.declared.expr.Expr.TheViews.{out-Expr}
use Rattle.cat_scope.specs.declared.expr.Expr.TheFolds.{map-Expr, fold_out-Expr}
use Rattle.cat_scope.specs.Same.{Standing}
use Rattle.cat_guard.specs.declared.guard.Guard.{Guard}
use Rattle.cat_guard.specs.declared.guard.Guard.TheVariants as leaf
use Rattle.cat_guard.specs.declared.guard.Guard.TheViews as guard
use Rattle.cat_guard.specs.declared.guard.Guard.TheFolds.{fold_out-Guard}
use Rattle.cat_guard.specs.Formulas.{Formula}
use Rattle.cat_guard.specs.Formulas as formula
use Rattle.cat_guard.specs.GuardFormulas.{connective, formula_of}
use Rattle.cat_guard.specs.Tables.{guard_tree}
use Rattle.cat_guard.specs.Questions.{Question, guard_in, guard_as, guard_of}

abbrev Part : Type 0
Part = Expr → Formula Question

-- a form with the guards of its parts
abbrev pub guarded : Decls → Standing → Expr-F Expr Arm FieldValue → Expr-F Part (Unit {0}) (Unit {0})
guarded ds g y = map-Expr Expr Arm FieldValue Part (Unit {0}) (Unit {0}) (guard_as ds g) (λ a. tt) (λ f. tt) y

guard_levels : (ds : Decls) (g : Standing) (e : Expr)
    → guard_as ds g e ≡ (λ f. guard_in ds g (guarded ds g (out-Expr e)) f (out-Expr f))
unfolding guard_as
guard_levels ds g e =
    fold_out-Expr Part (Unit {0}) (Unit {0}) (λ x f. guard_in ds g x f (out-Expr f)) (λ a. tt) (λ f. tt) e

pub guard_at : (ds : Decls) (g : Standing) (e : Expr) (y : Expr-F Expr Arm FieldValue) → out-Expr e ≡ y
    → guard_of ds g e ≡ guard_in ds g (guarded ds g y) e y
guard_at ds g e y is =
    ap (λ (f : Part). f e) (guard_levels ds g e) ∙ ap (λ x. guard_in ds g (guarded ds g x) e x) is

pub formula_Constant : (b : Bool) → formula_of (leaf.Constant b) ≡ formula.Constant b
unfolding formula_of
formula_Constant b = search (rules, guard.the_lemmas, fold_out-Guard (Formula ℕ) connective)

pub formula_Atom : (a : ℕ) → formula_of (leaf.Atom a) ≡ formula.Atom a
unfolding formula_of
formula_Atom a = search (rules, guard.the_lemmas, fold_out-Guard (Formula ℕ) connective)

pub formula_Not : (f : Guard) → formula_of (guard.Not f) ≡ formula.Not (formula_of f)
unfolding formula_of
formula_Not f = search (rules, guard.the_lemmas, fold_out-Guard (Formula ℕ) connective)

pub formula_Both : (f g : Guard) → formula_of (guard.Both f g) ≡ formula.Both (formula_of f) (formula_of g)
unfolding formula_of
formula_Both f g = search (rules, guard.the_lemmas, fold_out-Guard (Formula ℕ) connective)

pub formula_Either : (f g : Guard) → formula_of (guard.Either f g) ≡ formula.Either (formula_of f) (formula_of g)
unfolding formula_of
formula_Either f g = search (rules, guard.the_lemmas, fold_out-Guard (Formula ℕ) connective)

pub formula_Differ : (f g : Guard) → formula_of (guard.Differ f g) ≡ formula.Differ (formula_of f) (formula_of g)
unfolding formula_of
formula_Differ f g = search (rules, guard.the_lemmas, fold_out-Guard (Formula ℕ) connective)

pub formula_Choice : (c f g : Guard)
    → formula_of (guard.Choice c f g) ≡ formula.Choice (formula_of c) (formula_of f) (formula_of g)
unfolding formula_of
formula_Choice c f g = search (rules, guard.the_lemmas, fold_out-Guard (Formula ℕ) connective)

pub ruleset formulas = (
  formula_Constant,
  formula_Atom,
  formula_Not,
  formula_Both,
  formula_Either,
  formula_Differ,
  formula_Choice,
)

pub formula_of_guard_tree : (f : Formula ℕ) → formula_of (guard_tree f) ≡ f
formula_of_guard_tree (formula.Constant b) = formula_Constant b
formula_of_guard_tree (formula.Atom a) = formula_Atom a
formula_of_guard_tree (formula.Not f) = formula_Not (guard_tree f) ∙ ap formula.Not (formula_of_guard_tree f)
formula_of_guard_tree (formula.Both f g) =
    formula_Both (guard_tree f) (guard_tree g)
    ∙ ap (λ x. formula.Both x (formula_of (guard_tree g))) (formula_of_guard_tree f)
    ∙ ap (formula.Both f) (formula_of_guard_tree g)
formula_of_guard_tree (formula.Either f g) =
    formula_Either (guard_tree f) (guard_tree g)
    ∙ ap (λ x. formula.Either x (formula_of (guard_tree g))) (formula_of_guard_tree f)
    ∙ ap (formula.Either f) (formula_of_guard_tree g)
formula_of_guard_tree (formula.Differ f g) =
    formula_Differ (guard_tree f) (guard_tree g)
    ∙ ap (λ x. formula.Differ x (formula_of (guard_tree g))) (formula_of_guard_tree f)
    ∙ ap (formula.Differ f) (formula_of_guard_tree g)
formula_of_guard_tree (formula.Choice c f g) =
    formula_Choice (guard_tree c) (guard_tree f) (guard_tree g)
    ∙ ap (λ x. formula.Choice x (formula_of (guard_tree f)) (formula_of (guard_tree g))) (formula_of_guard_tree c)
    ∙ ap (λ x. formula.Choice c x (formula_of (guard_tree g))) (formula_of_guard_tree f)
    ∙ ap (formula.Choice c f) (formula_of_guard_tree g)
