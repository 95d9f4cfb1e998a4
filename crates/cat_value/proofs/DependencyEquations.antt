-- What each form of type names.
use Rattle.std.proofs.Common.{◌≡◌, ℕ, ◌+◌, List, [], ◌∷◌, rules}
use Rattle.cat_value.specs.declared.ty.Ty.{Ty}
use Rattle.cat_value.specs.declared.ty.Ty.TheVariants as flat_ty
use Rattle.cat_value.specs.declared.ty.Ty.TheViews as ty
use Rattle.cat_value.specs.declared.ty.Ty.TheFolds.{fold_out-Ty}
use Rattle.cat_value.specs.Dependencies.{named_by, names_at}

pub named_by_Boolean : (n : ℕ) → named_by n flat_ty.Boolean ≡ []
unfolding named_by
named_by_Boolean n = search (rules, ty.the_lemmas, fold_out-Ty (List ℕ) (names_at n))

pub named_by_Integer : (n : ℕ) → named_by n flat_ty.Integer ≡ []
unfolding named_by
named_by_Integer n = search (rules, ty.the_lemmas, fold_out-Ty (List ℕ) (names_at n))

pub named_by_Decimal : (n : ℕ) → named_by n flat_ty.Decimal ≡ []
unfolding named_by
named_by_Decimal n = search (rules, ty.the_lemmas, fold_out-Ty (List ℕ) (names_at n))

pub named_by_Money : (n : ℕ) → named_by n flat_ty.Money ≡ []
unfolding named_by
named_by_Money n = search (rules, ty.the_lemmas, fold_out-Ty (List ℕ) (names_at n))

pub named_by_Date : (n : ℕ) → named_by n flat_ty.Date ≡ []
unfolding named_by
named_by_Date n = search (rules, ty.the_lemmas, fold_out-Ty (List ℕ) (names_at n))

pub named_by_Duration : (n : ℕ) → named_by n flat_ty.Duration ≡ []
unfolding named_by
named_by_Duration n = search (rules, ty.the_lemmas, fold_out-Ty (List ℕ) (names_at n))

pub named_by_List : (n : ℕ) (t : Ty) → named_by n (ty.List t) ≡ named_by n t
unfolding named_by
named_by_List n t = search (rules, ty.the_lemmas, fold_out-Ty (List ℕ) (names_at n))

pub named_by_Structure : (n k : ℕ) → named_by n (flat_ty.Structure k) ≡ k ∷ []
unfolding named_by
named_by_Structure n k = search (rules, ty.the_lemmas, fold_out-Ty (List ℕ) (names_at n))

pub named_by_Enumeration : (n k : ℕ) → named_by n (flat_ty.Enumeration k) ≡ (n + k) ∷ []
unfolding named_by
named_by_Enumeration n k = search (rules, ty.the_lemmas, fold_out-Ty (List ℕ) (names_at n))

pub ruleset naming = (
  named_by_Boolean,
  named_by_Integer,
  named_by_Decimal,
  named_by_Money,
  named_by_Date,
  named_by_Duration,
  named_by_List,
  named_by_Structure,
  named_by_Enumeration,
)
