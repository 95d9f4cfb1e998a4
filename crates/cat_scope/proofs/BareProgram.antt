-- A program of one scope without items is well formed.
use Rattle.std.proofs.Common.{◌≡◌, ℕ, zero, suc, true, IsTrue, List, [], ◌∷◌, length, Some, refl, sym, subst, arith}
use Rattle.std.proofs.Common.{true≢false}
use Rattle.cat_value.specs.declared.decls.Decls.{Decls}
use Rattle.cat_value.specs.declared.declaration.Scope.{Scope}
use Rattle.cat_value.specs.declared.declaration.Structure.{Structure}
use Rattle.cat_value.specs.declared.declaration.Enumeration.{Enumeration}
use Rattle.cat_value.specs.declared.outcome.Target.{Target}
use Rattle.cat_value.specs.Declarations.{are_sound}
use Rattle.cat_value.specs.Dependencies.{are_ordered}
use Rattle.cat_date.specs.declared.rounding.Rounding.TheVariants.{Up}
use Rattle.cat_scope.specs.Forests.{are_low}
use Rattle.cat_date.specs.declared.rounding.Rounding.{Rounding}
use Rattle.cat_order.specs.Order.{IsOrder, is_ready}
use Rattle.cat_order.specs.Cycle.{DependsOn}
use Rattle.cat_order.specs.Computed.{order_of}
use Rattle.cat_order.proofs.Exported.{order_of-iff_IsOrder}
use Rattle.cat_scope.specs.declared.defs.SourcePart.TheVariants.{Declaration}
use Rattle.cat_scope.specs.declared.defs.Body.{Body}
use Rattle.cat_scope.specs.Orders.{scope_dependencies, item_dependencies}
use Rattle.cat_scope.specs.Chains.{HasShortChains, is_within}
use Rattle.cat_scope.specs.WellFormed.{IsBodyOf, AreBodiesOf, IsWellFormed}

-- an order that is computed, of dependencies that come to these
ordered : (deps closed : List (List ℕ)) (order : List ℕ) → deps ≡ closed → order_of closed ≡ Some order
    → IsOrder deps order
ordered deps closed order is computed =
    subst (λ d. IsOrder d order) (sym is) ((order_of-iff_IsOrder closed order).0 computed)

alone_leads_nowhere : (n m : ℕ) → DependsOn ([] ∷ []) n m → ⊥
alone_leads_nowhere zero m leads = true≢false (sym leads)
alone_leads_nowhere (suc n) m leads = true≢false (sym leads)

alone_is_short : HasShortChains ([] ∷ [])
alone_is_short [] chain = omega arith
alone_is_short (n ∷ []) chain = omega arith
alone_is_short (n ∷ m ∷ ns) chain = absurd (alone_leads_nowhere n m chain.0)

none_leads_nowhere : (n m : ℕ) → DependsOn [] n m → ⊥
none_leads_nowhere n m leads = true≢false (sym leads)

none_is_short : HasShortChains []
none_is_short [] chain = omega arith
none_is_short (n ∷ []) chain = omega arith
none_is_short (n ∷ m ∷ ns) chain = absurd (none_leads_nowhere n m chain.0)

abbrev pub bare_scope : List ℕ → Scope
bare_scope name = record { name = name; items = [] }

abbrev pub bare_body : Rounding → Body
bare_body rounding = record {
  defs = [];
  assertions = [];
  source = Declaration ∷ [];
  rounding = rounding;
  order = [];
  calls = [];
}

body_is : (decls : Decls) (name : List ℕ) (rounding : Rounding) → IsBodyOf decls 0 (bare_scope name)
    (bare_body rounding)
unfolding order_of is_ready is_within
body_is decls name rounding = record {
  placed = tt;
  defs = tt;
  assertions = tt;
  source = (refl, refl, refl);
  lists = refl;
  conditions = (tt, tt);
  order = ordered (item_dependencies [] []) [] [] refl refl;
  calls = refl;
  functions = none_is_short;
}

pub bare_program : (decls : Decls) (name : List ℕ) (rounding : Rounding) → decls.scopes ≡ bare_scope name ∷ []
    → IsWellFormed decls (bare_body rounding ∷ []) (0 ∷ [])
unfolding order_of is_ready is_within
bare_program decls name rounding is = record {
  counted = subst (λ (scopes : List Scope). 1 ≡ length scopes) (sym is) refl;
  bodies_are = subst (λ (scopes : List Scope). AreBodiesOf decls 0 scopes (bare_body rounding ∷ [])) (sym is)
      (body_is decls name rounding, tt);
  order = ordered (scope_dependencies decls.scopes (bare_body rounding ∷ [])) ([] ∷ []) (0 ∷ [])
      (subst (λ (scopes : List Scope). scope_dependencies scopes (bare_body rounding ∷ []) ≡ [] ∷ []) (sym is) refl)
      refl;
  chains = subst (λ (scopes : List Scope). HasShortChains (scope_dependencies scopes (bare_body rounding ∷ [])))
      (sym is) alone_is_short;
}

bare_is_sound : (name : List ℕ) → IsTrue (are_sound [] [] (bare_scope name ∷ []))
unfolding are_sound are_ordered order_of
bare_is_sound name = refl

pub bare_sound : (ss : List Structure) (es : List Enumeration) (scopes : List Scope) (name : List ℕ) → ss ≡ [] → es ≡ []
    → scopes ≡ bare_scope name ∷ [] → IsTrue (are_sound ss es scopes)
bare_sound ss es scopes name s e is = rw (s, e, is) (bare_is_sound name)

pub bare_requires : (decls : Decls) (bodies : List Body) (order : List ℕ) (name : List ℕ) → decls.scopes ≡ bare_scope
    name ∷ [] → bodies ≡ bare_body Up ∷ [] → order ≡ 0 ∷ [] → ∥ IsWellFormed decls bodies order ∥₁
bare_requires decls bodies order name is are stands = rw (are, stands) (∣ bare_program decls name Up is ∣₁)

-- a forest of one target with two groups, of which the second excepts the first
pub two_groups_are_low : (target : Target)
    → are_low (record {
      target = target;
      groups = record { defs = 0 ∷ []; excepted_by = 1 ∷ [] } ∷
          record { defs = 1 ∷ []; excepted_by = [] } ∷ [];
    } ∷ []) ≡ true
unfolding are_low is_within
two_groups_are_low target = refl
