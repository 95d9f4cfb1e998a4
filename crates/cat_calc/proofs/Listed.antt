-- Each definition is one of a target that is listed among the targets of its scope.
use Rattle.std.proofs.Common.{◌≡◌, ◌⊎◌, inl, inr, ℕ, ◌+◌, Bool, true, false}
use Rattle.std.proofs.Common.{List, [], ◌∷◌, Option, refl, subst}
use Rattle.std.proofs.Common.{if◌then◌else◌}
use Rattle.std.proofs.Math.Logic.{⊎_elim}
use Rattle.cat_value.specs.declared.ty.Ty.{Ty}
use Rattle.cat_value.specs.declared.declaration.Kind.TheVariants as kind
use Rattle.cat_scope.specs.declared.defs.Def.{Def}
use Rattle.cat_scope.specs.Names.{Names, AllHave, has_none}
use Rattle.cat_scope.specs.Naming.{IsTargetAt}
use Rattle.cat_scope.specs.Targets.{same_target, defs_from}
use Rattle.cat_scope.specs.WellFormed.{DefTyped}
use Rattle.cat_calc.specs.inside.Items.{target_at}
use Rattle.cat_calc.proofs.Tables.{same_parts}

-- ---- definitions

-- a target of a scope, with its parameters and its type
pub record IsTarget (names : Names) (item : ℕ) (inner : Option ℕ) : Type 0 where
  pub params : List Ty
  pub ty : Ty
  pub is : IsTargetAt names item inner params ty

-- a definition of an item and inner item is one of a target
defined_at : (names : Names) (scope item : ℕ) (inner : Option ℕ) (d : Def) → DefTyped names scope d
    → same_target d.target (target_at item inner) ≡ true → IsTarget names item inner
defined_at names scope item inner d typed same =
    let parts = same_parts d.target (target_at item inner) same in
    record {
      params = typed.params;
      ty = typed.ty;
      is = subst (λ o. IsTargetAt names item o typed.params typed.ty) parts.1
          (subst (λ (n : ℕ). IsTargetAt names n d.target.inner typed.params typed.ty) parts.0 typed.target);
    }

-- there is a target, or no definition is of it
pub target_or_none : (names : Names) (scope item : ℕ) (inner : Option ℕ) (defs : List Def)
    → AllHave (DefTyped names scope) defs
    → IsTarget names item inner ⊎ ((n : ℕ) → has_none (defs_from (target_at item inner) n defs) ≡ true)
target_or_none names scope item inner [] typed = inr (λ n. refl)
target_or_none names scope item inner (d ∷ defs) typed =
    by (same_target d.target (target_at item inner)) refl
    (target_or_none names scope item inner defs typed.1)
  where
    by : (b : Bool) → same_target d.target (target_at item inner) ≡ b
        → IsTarget names item inner ⊎ ((n : ℕ) → has_none (defs_from (target_at item inner) n defs) ≡ true)
        → IsTarget names item inner
        ⊎ ((n : ℕ) → has_none (if b then (n, d) ∷ defs_from (target_at item inner) (n + 1) defs
        else defs_from (target_at item inner) (n + 1) defs) ≡ true)
    by true same rest = inl (defined_at names scope item inner d typed.0 same)
    by false same rest = ⊎_elim (λ there. inl there) (λ none. inr (λ n. none (n + 1))) rest
