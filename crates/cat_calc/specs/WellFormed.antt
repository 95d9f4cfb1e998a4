-- What holds of every calculus: its terms are well typed, and name only what stands before.
use Rattle.std.specs.Prelude.{◌≡◌, ℕ, ◌+◌, ◌<◌, true, false, IsTrue, IfSome, List, [], ◌∷◌, ◌++◌, length, map, Option, Some, None}
use Rattle.std.specs.Prelude.{slice_get}
use Rattle.cat_order.specs.Order.{times}
use Rattle.cat_value.specs.declared.ty.Ty.{Ty}
use Rattle.cat_value.specs.declared.ty.Ty.TheVariants.{Boolean}
use Rattle.cat_value.specs.declared.decls.Decls.{Decls}
use Rattle.cat_value.specs.declared.declaration.ItemDecl.{ItemDecl}
use Rattle.cat_value.specs.declared.declaration.Scope.{Scope}
use Rattle.cat_value.specs.declared.outcome.Target.{Target}
use Rattle.cat_scope.specs.declared.expr.Expr.{Expr}
use Rattle.cat_scope.specs.Names.{AllHave, Names, all_differ, is_in, items_in}
use Rattle.cat_scope.specs.Naming.{IsTargetAt}
use Rattle.cat_scope.specs.HasType.{HasType}
use Rattle.cat_scope.specs.Expected.{lists_placed}
use Rattle.cat_scope.specs.Mentions.{items_named, joined, scopes_named}
use Rattle.cat_scope.specs.Orders.{called_by_items}
use Rattle.cat_scope.specs.WellFormed.{AssertionTyped, is_placed}
use Rattle.cat_calc.specs.declared.term.DefaultTerm.{DefaultTerm}
use Rattle.cat_calc.specs.declared.calcs.ItemTerms.{ItemTerms}
use Rattle.cat_calc.specs.declared.calcs.CalcScope.{CalcScope}
use Rattle.cat_calc.specs.Terms.{conditions_in, consequences_in, named_in, numbers_in}
use Rattle.cat_calc.specs.Reducing.{term_of}

-- a term of a target with these parameters and this type: its conditions are boolean, its consequences of the type
pub record TermTyped (names : Names) (params : List Ty) (ty : Ty) (term : DefaultTerm) : Type 0 where
  pub conditions : AllHave (λ e. HasType names params e Boolean) (conditions_in term)
  pub consequences : AllHave (λ h. HasType names params h.value ty) (consequences_in term)

-- empty lists of a term stand where a type is expected: of a consequence one is, and of a condition none
pub record TermPlaced (term : DefaultTerm) : Type 0 where
  pub conditions : AllHave (λ e. IsTrue (lists_placed e false)) (conditions_in term)
  pub consequences : AllHave (λ h. IsTrue (lists_placed h.value true)) (consequences_in term)

-- all terms of an item
abbrev pub all_terms : ItemTerms → List DefaultTerm
all_terms terms = terms.own ∷ terms.inner

-- what some terms name
abbrev pub named_in_all : (Expr → List ℕ) → List DefaultTerm → List ℕ
named_in_all named [] = []
named_in_all named (term ∷ terms) = named_in named term ++ named_in_all named terms

-- what the terms of an item name, where it has some
abbrev pub named_by_terms : (Expr → List ℕ) → Option ItemTerms → List ℕ
named_by_terms named None = []
named_by_terms named (Some terms) = named_in_all named (all_terms terms)

-- what the terms of some items name
abbrev pub named_by_items : (Expr → List ℕ) → List ItemTerms → List ℕ
named_by_items named [] = []
named_by_items named (terms ∷ rest) = named_in_all named (all_terms terms) ++ named_by_items named rest

-- the items that the terms of an item read or call
abbrev pub items_needed : CalcScope → ℕ → List ℕ
items_needed scope item = named_by_terms items_named (slice_get scope.terms item)

-- the scopes that a scope calls: by its items, its terms and its assertions
abbrev pub scopes_called : List ItemDecl → Option CalcScope → List ℕ
scopes_called items None = []
scopes_called items (Some scope) =
    called_by_items items ++ named_by_items scopes_named scope.terms
    ++ joined (map (λ a. scopes_named a.condition) scope.assertions)

-- the numbers of the definitions of some terms
abbrev pub numbers_in_all : List DefaultTerm → List ℕ
numbers_in_all [] = []
numbers_in_all (term ∷ terms) = numbers_in term ++ numbers_in_all terms

-- the numbers of the definitions of a scope
abbrev pub definition_numbers : List ItemTerms → List ℕ
definition_numbers [] = []
definition_numbers (terms ∷ rest) = numbers_in_all (all_terms terms) ++ definition_numbers rest

-- numbers below a bound, each of which needs only some that stand before it: `before` are those in front, the last of
-- them first
abbrev pub StandBehind : ℕ → (ℕ → List ℕ) → List ℕ → List ℕ → Type 0
StandBehind bound needs before [] = Unit {0}
StandBehind bound needs before (n ∷ rest) =
    (n < bound) × AllHave (λ k. IsTrue (is_in k before)) (needs n) × StandBehind bound needs (n ∷ before) rest

-- each number below a bound stands once in an order, behind those that it needs
pub record IsOrderOf (bound : ℕ) (needs : ℕ → List ℕ) (order : List ℕ) : Type 0 where
  pub once : (n : ℕ) → n < bound → times order n ≡ 1
  pub behind : StandBehind bound needs [] order

-- a scope with its terms: they are typed as their targets are, empty lists stand where a type is expected, an item's
-- terms name only items that stand before it, and no two definitions have one number
pub record IsCalcScope (decls : Decls) (scope : Scope) (terms : CalcScope) : Type 0 where
  pub placed : AllHave (λ item. IsTrue (is_placed item)) scope.items
  pub counted : length terms.terms ≡ length scope.items
  pub typed : (target : Target) (params : List Ty) (ty : Ty)
      → IsTargetAt (record { decls = decls; items = scope.items }) target.item target.inner params ty
      → IfSome (term_of terms.terms target) (TermTyped (record { decls = decls; items = scope.items }) params ty)
  pub assertions : AllHave (AssertionTyped (record { decls = decls; items = scope.items })) terms.assertions
  pub lists : (target : Target) (params : List Ty) (ty : Ty)
      → IsTargetAt (record { decls = decls; items = scope.items }) target.item target.inner params ty
      → IfSome (term_of terms.terms target) TermPlaced
  pub assertion_lists : AllHave (λ a. IsTrue (lists_placed a.condition false)) terms.assertions
  pub order : IsOrderOf (length scope.items) (items_needed terms) terms.order
  pub numbers : IsTrue (all_differ (definition_numbers terms.terms))

-- terms for each scope
abbrev pub AreCalcScopes : Decls → List Scope → List CalcScope → Type 0
AreCalcScopes decls [] [] = Unit {0}
AreCalcScopes decls [] (terms ∷ rest) = ⊥
AreCalcScopes decls (scope ∷ scopes) [] = ⊥
AreCalcScopes decls (scope ∷ scopes) (terms ∷ rest) = IsCalcScope decls scope terms × AreCalcScopes decls scopes rest

-- declarations with the terms of each scope and the order of the scopes
pub record IsCalc (decls : Decls) (scopes : List CalcScope) (scope_order : List ℕ) : Type 0 where
  pub scopes_are : AreCalcScopes decls decls.scopes scopes
  pub order : IsOrderOf (length decls.scopes)
      (λ n. scopes_called (items_in (slice_get decls.scopes n)) (slice_get scopes n)) scope_order
