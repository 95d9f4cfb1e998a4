-- The expressions of a term.
use Rattle.std.specs.Prelude.{ℕ, List, [], ◌∷◌, ◌++◌, map}
use Rattle.cat_scope.specs.declared.expr.Expr.{Expr}
use Rattle.cat_scope.specs.Judging.{Held}
use Rattle.cat_scope.specs.Mentions.{joined}
use Rattle.cat_calc.specs.declared.term.Justification.{Justification}
use Rattle.cat_calc.specs.declared.term.Justification.TheVariants as justification
use Rattle.cat_calc.specs.declared.term.DefaultTerm.{DefaultTerm}
use Rattle.cat_calc.specs.declared.term.DefaultTerm.TheOpen.{DefaultTerm-F}
use Rattle.cat_calc.specs.declared.term.DefaultTerm.TheFolds.{fold-DefaultTerm}

-- some lists, one behind another
abbrev pub all_in : {A : Type 0} → List (List A) → List A
all_in [] = []
all_in (xs ∷ rest) = xs ++ all_in rest

-- the expression of a justification, where it is one
abbrev pub condition_in : Justification → List Expr
condition_in justification.Never = []
condition_in justification.Always = []
condition_in (justification.Where e) = e ∷ []

-- conditions, as the parts of a term have them
abbrev pub conditions_by : DefaultTerm-F (List Expr) → List Expr
conditions_by DefaultTerm-F.Empty = []
conditions_by (DefaultTerm-F.Consequence number p e) = []
conditions_by (DefaultTerm-F.Default exceptions justification consequence) =
    all_in exceptions ++ condition_in justification ++ consequence

-- the conditions of a term
unfoldable pub conditions_in : DefaultTerm → List Expr
conditions_in = fold-DefaultTerm (List Expr) conditions_by

-- consequences, as the parts of a term have them
abbrev pub consequences_by : DefaultTerm-F (List (Held Expr)) → List (Held Expr)
consequences_by DefaultTerm-F.Empty = []
consequences_by (DefaultTerm-F.Consequence number p e) = record { number = number; pos = p; value = e } ∷ []
consequences_by (DefaultTerm-F.Default exceptions justification consequence) = all_in exceptions ++ consequence

-- the consequences of a term, each with the number and the position of its definition
unfoldable pub consequences_in : DefaultTerm → List (Held Expr)
consequences_in = fold-DefaultTerm (List (Held Expr)) consequences_by

-- what the expressions of a term name
abbrev pub named_in : (Expr → List ℕ) → DefaultTerm → List ℕ
named_in named term =
    joined (map named (conditions_in term)) ++ joined (map (λ h. named h.value) (consequences_in term))

-- the numbers of its definitions
abbrev pub numbers_in : DefaultTerm → List ℕ
numbers_in term = map (λ h. h.number) (consequences_in term)
