-- The equation of each word on types at each type.
use Rattle.std.proofs.Common.{◌≡◌, Bool, refl}
use Rattle.cat_value.specs.declared.ty.Ty.{Ty}
use Rattle.cat_value.specs.declared.ty.Ty.TheFolds.{fold_out-Ty, map-Ty}
use Rattle.cat_value.specs.declared.ty.Ty.TheViews as ty
use Rattle.cat_value.specs.declared.ty.Ty.TheViews.{out-Ty}
use Rattle.cat_names.specs.Types.{same, same_level, element_of, element_in, structure_of, structure_in, enumeration_of}
use Rattle.cat_names.specs.Types.{enumeration_in, flat_of, flat_in}

-- a word on a type is its word on the type's level
pub element_level : (t : Ty) → element_of t ≡ element_in (out-Ty t)
unfolding element_of
element_level t = refl

pub structure_level : (t : Ty) → structure_of t ≡ structure_in (out-Ty t)
unfolding structure_of
structure_level t = refl

pub enumeration_level : (t : Ty) → enumeration_of t ≡ enumeration_in (out-Ty t)
unfolding enumeration_of
enumeration_level t = refl

pub flat_level : (t : Ty) → flat_of t ≡ flat_in (out-Ty t)
unfolding flat_of
flat_level t = refl

pub same_at : (a b : Ty) → same a b ≡ same_level (map-Ty Ty (Ty → Bool) same (out-Ty a)) (out-Ty b)
unfolding same
same_at a b = rw (fold_out-Ty (Ty → Bool) (λ level t. same_level level (out-Ty t)) a) refl

-- a word on a type, taken to the type's level
pub ruleset views = (element_level, structure_level, enumeration_level, flat_level, same_at, ty.the_lemmas)
