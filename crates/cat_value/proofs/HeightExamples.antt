-- Worked examples at the height that no declared type passes: an integer in so many lists.
use Rattle.std.proofs.Common.{◌≡◌, ◌≤◌, ◌∙◌, ℕ, zero, suc, true, false, [], refl, arith}
use Rattle.std.specs.Prelude.{nat_le}
use Rattle.cat_value.specs.declared.ty.Ty.{Ty}
use Rattle.cat_value.specs.declared.ty.Ty.TheVariants as flat
use Rattle.cat_value.specs.declared.ty.Ty.TheViews as ty
use Rattle.cat_value.specs.Heights.{height_to}
use Rattle.cat_value.specs.Declarations.{highest, is_declared, is_sound}
use Rattle.cat_value.proofs.Equations.{is_declared_Integer, is_declared_List}
use Rattle.cat_value.proofs.Descending.{height_Integer, height_List}
use Rattle.cat_value.proofs.Levels.{height_zero}

abbrev nested : ℕ → Ty
nested zero = flat.Integer
nested (suc n) = ty.List (nested n)

each_list_counts : (k n : ℕ) → n ≤ k → height_to [] [] k (nested n) ≡ suc n
each_list_counts zero zero h = height_zero [] [] flat.Integer
each_list_counts zero (suc n) h = absurd (omega (arith, h))
each_list_counts (suc k) zero h = height_Integer [] [] k
each_list_counts (suc k) (suc n) h =
    omega (arith, height_List [] [] k (nested n), each_list_counts k n (omega (arith, h)))

each_is_declared : (n : ℕ) → is_declared [] [] (nested n) ≡ true
each_is_declared zero = is_declared_Integer [] []
each_is_declared (suc n) = is_declared_List [] [] (nested n) ∙ each_is_declared n

sound_where_low : (n : ℕ) → n ≤ highest → is_sound [] [] (nested n) ≡ nat_le (suc n) highest
sound_where_low n h = rw (each_is_declared n, each_list_counts highest n h) refl

as_high_as_may_be : is_sound [] [] (nested 63) ≡ true
as_high_as_may_be = sound_where_low 63 (omega arith)

one_too_high : is_sound [] [] (nested 64) ≡ false
one_too_high = sound_where_low 64 (omega arith)
