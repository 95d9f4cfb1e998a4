-- What a program is turned into.
use Rattle.std.specs.Prelude.{◌≡◌, ℕ, List, [], ◌∷◌, Some}
use Rattle.cat_value.specs.declared.value.Value.{Value}
use Rattle.cat_value.specs.declared.outcome.Target.{Target}
use Rattle.cat_scope.specs.declared.expr.Expr.{Expr}
use Rattle.cat_scope.specs.declared.defs.Def.{Def}
use Rattle.cat_scope.specs.declared.defs.Body.{Body}
use Rattle.cat_scope.specs.Names.{AllHave, IsOneOf}
use Rattle.cat_scope.specs.Judging.{Held}
use Rattle.cat_scope.specs.declared.programs.Program.{Program}
use Rattle.cat_scope.specs.Runs.{Run}
use Rattle.cat_scope.specs.Calls.{Items}
use Rattle.cat_scope.specs.Targets.{judge_target}
use Rattle.cat_scope.specs.Outcomes.{deciders, scope_outcome}
use Rattle.cat_sound.specs.Grouped.{AreJudgedByRule}
use Rattle.cat_calc.specs.declared.calcs.Calc.{Calc}
use Rattle.cat_calc.specs.declared.calcs.CalcScope.{CalcScope}
use Rattle.cat_calc.specs.declared.term.DefaultTerm.{DefaultTerm}
use Rattle.cat_calc.specs.Calculus.{calc_deciders, calc_outcome}
use Rattle.cat_calc.specs.Terms.{conditions_in, consequences_in}
use Rattle.cat_calc.specs.WellFormed.{all_terms}
use Rattle.cat_calc.specs.Reducing.{reduced}
use Rattle.cat_calc.specs.inside.Numbered.{groups_in}

-- on each input a scope's terms come to the outcome of its definitions, positions included
abbrev pub KeepsOutcomes : Program → Calc → Type 0
KeepsOutcomes program calc =
    (scope : ℕ) (input : Items) → calc_outcome calc scope input ≡ scope_outcome program scope input

-- and by the same definitions, in the same order
abbrev pub KeepsDeciders : Program → Calc → Type 0
KeepsDeciders program calc =
    (scope : ℕ) (input : Items) → calc_deciders calc scope input ≡ deciders program scope input

-- where each group of a target is judged by its rule, a term comes to what the target is judged as, whatever
-- expressions mean
abbrev pub KeepsJudging : List Def → Target → DefaultTerm → Type 0
KeepsJudging defs target term =
    (meaning : Expr → Run Value) → AreJudgedByRule target (groups_in defs target)
    → reduced meaning target term ≡ judge_target meaning target defs

-- ---- what terms are made of

-- the condition of one of some definitions
pub record IsConditionOf (defs : List Def) (e : Expr) : Type 0 where
  pub def : Def
  pub there : IsOneOf def defs
  pub is : def.condition ≡ Some e

-- the consequence of one of them, at its position
pub record IsConsequenceOf (defs : List Def) (h : Held Expr) : Type 0 where
  pub def : Def
  pub there : IsOneOf def defs
  pub pos : h.pos ≡ def.pos
  pub value : h.value ≡ def.consequence

-- a term of such conditions and consequences
pub record IsTermOf (defs : List Def) (term : DefaultTerm) : Type 0 where
  pub conditions : AllHave (IsConditionOf defs) (conditions_in term)
  pub consequences : AllHave (IsConsequenceOf defs) (consequences_in term)

-- the terms and the assertions of a scope are made of its body
pub record IsMadeOf (body : Body) (scope : CalcScope) : Type 0 where
  pub terms : AllHave (λ terms. AllHave (IsTermOf body.defs) (all_terms terms)) scope.terms
  pub assertions : scope.assertions ≡ body.assertions

-- each scope is made of the body of its number
abbrev pub AreMadeOf : List Body → List CalcScope → Type 0
AreMadeOf bodies [] = Unit {0}
AreMadeOf [] (scope ∷ scopes) = ⊥
AreMadeOf (body ∷ bodies) (scope ∷ scopes) = IsMadeOf body scope × AreMadeOf bodies scopes
