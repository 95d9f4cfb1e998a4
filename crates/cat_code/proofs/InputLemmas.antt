-- A well-typed input of a scope is one that the scope takes.
use Rattle.std.proofs.Common.{◌≡◌, ℕ, true≢false, IsTrue, Option, Some, None, refl, sym, slice_get}
use Rattle.cat_value.specs.declared.declaration.Scope.{Scope}
use Rattle.cat_value.specs.declared.decls.Decls.{Decls}
use Rattle.cat_value.specs.Inputs.{are_given_for, is_input_for, is_input_of, IsWellTyped}
use Rattle.cat_scope.specs.Calls.{Items}

-- a scope that takes an input
pub record Taken (ds : Decls) (n : ℕ) (input : Items) : Type 0 where
  pub scope : Scope
  pub is : slice_get ds.scopes n ≡ Some scope
  pub given : IsTrue (are_given_for ds scope.items input)

pub taken : (ds : Decls) (n : ℕ) (input : Items) → IsWellTyped ds n input → Taken ds n input
unfolding is_input_of
taken ds n input typed = by (slice_get ds.scopes n) refl typed
  where
    by : (o : Option Scope) → slice_get ds.scopes n ≡ o → IsTrue (is_input_for ds input o) → Taken ds n input
    by None is given = absurd (true≢false (sym given))
    by (Some scope) is given = record { scope = scope; is = is; given = given }
