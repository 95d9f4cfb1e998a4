-- Worked examples of where `[]` may stand.
use Rattle.std.proofs.Common.{◌≡◌, true, false, [], ◌∷◌, rules}
use Rattle.cat_scope.specs.declared.expr.Expr.{Expr}
use Rattle.cat_scope.specs.declared.expr.Expr.TheVariants as leaf
use Rattle.cat_scope.specs.declared.expr.Expr.TheViews as expr
use Rattle.cat_scope.specs.declared.expr.Literal.TheVariants as literal
use Rattle.cat_scope.specs.Expected.{lists_placed}
use Rattle.cat_scope.proofs.Placings.{placings}
use Rattle.cat_scope.proofs.Samples.{at, whole}

abbrev nothing : Expr
nothing = expr.List (at 0 0) []

abbrev truth : Expr
truth = leaf.Literal (at 0 0) (literal.Boolean true)

-- `definition x equals []`
as_a_consequence : lists_placed nothing true ≡ true
as_a_consequence = search (rules, placings)

-- `number of []`
under_number_of : lists_placed (expr.Length (at 0 0) nothing) true ≡ false
under_number_of = search (rules, placings)

-- `number of [[1]; []]`, and `number of [[]; [1]]`
as_a_later_element : lists_placed
    (expr.Length (at 0 0) (expr.List (at 0 0) (expr.List (at 0 0) (whole 1 ∷ []) ∷ nothing ∷ []))) true ≡ true
as_a_later_element = search (rules, placings)

as_the_first_element : lists_placed
    (expr.Length (at 0 0) (expr.List (at 0 0) (nothing ∷ expr.List (at 0 0) (whole 1 ∷ []) ∷ []))) true ≡ false
as_the_first_element = search (rules, placings)

-- `if true then [] else []`, where a list is expected and where nothing is
in_branches : lists_placed (expr.If (at 0 0) truth nothing nothing) true ≡ true
in_branches = search (rules, placings)

in_branches_of_no_type : lists_placed (expr.If (at 0 0) truth nothing nothing) false ≡ false
in_branches_of_no_type = search (rules, placings)
