-- Worked examples of the scopes that a scope calls: they are listed as they first appear in its source.
use Rattle.std.proofs.Common.{◌≡◌, ℕ, List, [], ◌∷◌, Some, None, rules}
use Rattle.cat_value.specs.declared.declaration.Kind.TheVariants as kind
use Rattle.cat_scope.specs.declared.expr.Expr.{Expr}
use Rattle.cat_scope.specs.declared.expr.Expr.TheViews as expr
use Rattle.cat_scope.specs.declared.defs.Except.TheVariants as except
use Rattle.cat_scope.specs.declared.defs.SourcePart.{SourcePart}
use Rattle.cat_scope.specs.declared.defs.SourcePart.TheVariants.{Declaration, Condition, Definition, Assertion}
use Rattle.cat_scope.specs.Orders.{called_in, once}
use Rattle.cat_scope.proofs.Namings.{namings}
use Rattle.cat_scope.proofs.Samples.{at, item, def, x}

-- `output of U with { } . w`, of scope U
abbrev calling : ℕ → Expr
calling scope = expr.ScopeCall (at 0 0) scope [] 0

-- a scope that has the called scope 1, a definition that calls 3 in its condition and then 2, and an assertion that
-- calls 4, in a source
abbrev listed : List SourcePart → List ℕ
listed source = once [] (called_in
    (item (kind.Called 1) (at 3 3) ∷ []) source
    (def x None except.No (Some (calling 3)) (calling 2) (at 6 3) ∷ [])
    (record { condition = calling 4; keyword = at 7 3 } ∷ []))

a_declaration_that_comes_first : listed (Declaration ∷ Definition ∷ Assertion ∷ []) ≡ 1 ∷ 3 ∷ 2 ∷ 4 ∷ []
a_declaration_that_comes_first = search (rules, namings)

an_assertion_before_a_definition : listed (Declaration ∷ Assertion ∷ Definition ∷ []) ≡ 1 ∷ 4 ∷ 3 ∷ 2 ∷ []
an_assertion_before_a_definition = search (rules, namings)

a_declaration_that_comes_last : listed (Definition ∷ Assertion ∷ Declaration ∷ []) ≡ 3 ∷ 2 ∷ 4 ∷ 1 ∷ []
a_declaration_that_comes_last = search (rules, namings)

-- the condition of a block stands before an assertion of the block that precedes its definitions
a_block_with_a_condition : listed (Declaration ∷ Condition (calling 3) ∷ Assertion ∷ Definition ∷ []) ≡ 1 ∷ 3 ∷ 4 ∷ 2 ∷
    []
a_block_with_a_condition = search (rules, namings)
