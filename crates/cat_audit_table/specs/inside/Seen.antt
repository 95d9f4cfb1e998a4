-- What the code has on its way to a guard.
use Rattle.std.specs.Prelude.{ℕ, Option, Some, None, slice_get}
use Rattle.cat_value.specs.declared.decls.Decls.{Decls}
use Rattle.cat_region.specs.declared.dim.Dim.TheVariants as dim
use Rattle.cat_region.specs.declared.cut.Cut.TheVariants as cut
use Rattle.cat_scope.specs.declared.expr.Expr.{Expr}
use Rattle.cat_scope.specs.Fitting.{cases_in}
use Rattle.cat_guard.specs.Formulas.{Formula}
use Rattle.cat_guard.specs.Comparisons as comparison
use Rattle.cat_guard.specs.Comparisons.{Comparison}
use Rattle.cat_guard.specs.Questions.{Question, ask}
use Rattle.cat_audit_table.specs.declared.comparison.Comparison.{Comparison as Coded}
use Rattle.cat_audit_table.specs.declared.comparison.Comparison.TheVariants as coded
use Rattle.cat_audit_table.specs.declared.here.ConditionContext.{ConditionContext}
use Rattle.cat_audit_table.specs.Numbered.{standing_at}

-- the comparison that the code's one is
abbrev pub seen : Coded → Comparison
seen coded.Less = comparison.Less
seen coded.AtMost = comparison.AtMost
seen coded.Greater = comparison.Greater
seen coded.AtLeast = comparison.AtLeast
seen coded.Equal = comparison.Equal
seen coded.Unequal = comparison.Unequal

-- the same, where there is one
abbrev pub seen_of : Option Coded → Option Comparison
seen_of None = None
seen_of (Some c) = Some (seen c)

-- how many cases the enumeration of that number has
abbrev pub case_count : Decls → ℕ → ℕ
case_count ds n = cases_in (slice_get ds.enumerations n)

-- a test for a case of the enumeration of that number
abbrev pub case_at : ConditionContext → Expr → ℕ → ℕ → Formula Question
case_at here e n k = ask (standing_at here) e (dim.Cases (case_count here.decls.now n)) (cut.IsCase k)
