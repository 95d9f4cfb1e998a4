-- Heights up to one level, and up to the next.
use Rattle.std.proofs.Common.{◌≡◌, ℕ, zero, suc, ◌+◌, ◌<◌, ◌≤◌, min, List, [], ◌∷◌, Option, None, Some, refl, arith}
use Rattle.cat_value.specs.declared.ty.Ty.{Ty}
use Rattle.cat_value.specs.declared.ty.Ty.TheOpen.{Ty-F}
use Rattle.cat_value.specs.declared.ty.Ty.TheVariants as flat
use Rattle.cat_value.specs.declared.ty.Ty.TheViews as ty
use Rattle.cat_value.specs.declared.declaration.Field.{Field}
use Rattle.cat_value.specs.declared.declaration.Structure.{Structure}
use Rattle.cat_value.specs.declared.declaration.Case.{Case}
use Rattle.cat_value.specs.declared.declaration.Enumeration.{Enumeration}
use Rattle.cat_value.specs.Heights.{height_to, highest_field, content_height, highest_content, structure_parts}
use Rattle.cat_value.specs.Heights.{enumeration_parts, highest_part}
use Rattle.cat_value.proofs.Descending.{height_Boolean, height_Date, height_Decimal, height_Duration, height_Integer}
use Rattle.cat_value.proofs.Descending.{height_List, height_Money}

-- one measure is another up to a bound
abbrev AreCut : ℕ → (Ty → ℕ) → (Ty → ℕ) → Type 0
AreCut bound f g = (t : Ty) → f t ≡ min bound (g t)

fields_cut : (bound : ℕ) (f g : Ty → ℕ) → AreCut bound f g → (fs : List Field)
    → highest_field f fs ≡ min bound (highest_field g fs)
fields_cut bound f g cut [] = omega arith
fields_cut bound f g cut (x ∷ xs) = omega (arith, cut x.ty, fields_cut bound f g cut xs)

content_cut : (bound : ℕ) (f g : Ty → ℕ) → AreCut bound f g → (content : Option Ty)
    → content_height f content ≡ min bound (content_height g content)
content_cut bound f g cut None = omega arith
content_cut bound f g cut (Some t) = cut t

contents_cut : (bound : ℕ) (f g : Ty → ℕ) → AreCut bound f g → (cs : List Case)
    → highest_content f cs ≡ min bound (highest_content g cs)
contents_cut bound f g cut [] = omega arith
contents_cut bound f g cut (x ∷ xs) =
    omega (arith, content_cut bound f g cut x.content, contents_cut bound f g cut xs)

structure_cut : (bound : ℕ) (f g : Ty → ℕ) → AreCut bound f g → (s : Option Structure)
    → structure_parts f s ≡ min bound (structure_parts g s)
structure_cut bound f g cut None = omega arith
structure_cut bound f g cut (Some s) = fields_cut bound f g cut s.fields

enumeration_cut : (bound : ℕ) (f g : Ty → ℕ) → AreCut bound f g → (e : Option Enumeration)
    → enumeration_parts f e ≡ min bound (enumeration_parts g e)
enumeration_cut bound f g cut None = omega arith
enumeration_cut bound f g cut (Some e) = contents_cut bound f g cut e.cases

module _ (ss : List Structure) (es : List Enumeration) where
  parts_cut : (bound : ℕ) (f g : Ty → ℕ) → AreCut bound f g → (y : Ty-F Ty)
      → highest_part ss es f y ≡ min bound (highest_part ss es g y)
  parts_cut bound f g cut (Ty-F.List t) = cut t
  parts_cut bound f g cut (Ty-F.Structure n) = structure_cut bound f g cut _
  parts_cut bound f g cut (Ty-F.Enumeration n) = enumeration_cut bound f g cut _
  parts_cut bound f g cut _ = omega arith

  pub height_zero : (t : Ty) → height_to ss es zero t ≡ 1
  unfolding height_to
  height_zero t = refl

  pub height_step : (k : ℕ) (t : Ty)
      → height_to ss es (suc k) t ≡ 1 + highest_part ss es (height_to ss es k) (ty.out-Ty t)
  unfolding height_to
  height_step k t = refl

  -- what is told apart up to one level is what is told apart up to the next, but for one number
  pub level_cut : (k : ℕ) → AreCut (suc k) (height_to ss es k) (height_to ss es (suc k))
  level_cut zero t = omega (arith, height_zero t, height_step zero t)
  level_cut (suc k) t = omega (
    arith,
    height_step k t,
    height_step (suc k) t,
    parts_cut (suc k) (height_to ss es k) (height_to ss es (suc k)) (level_cut k) (ty.out-Ty t),
  )

  pub height_bounded : (k : ℕ) (t : Ty) → height_to ss es k t ≤ suc k
  height_bounded k t = omega (arith, level_cut k t)

  -- a list is one higher than its elements
  pub list_height : (k : ℕ) (t : Ty) → height_to ss es k (ty.List t) ≡ min (suc k) (1 + height_to ss es k t)
  list_height zero t = omega (arith, height_zero (ty.List t), height_zero t)
  list_height (suc k) t = omega (arith, height_List ss es k t, level_cut k t)

  pub list_below : (k : ℕ) (t : Ty) → height_to ss es k t ≤ k → height_to ss es k (ty.List t) ≡ height_to ss es k t + 1
  list_below k t low = omega (arith, list_height k t)

  pub list_above : (k : ℕ) (t : Ty) → k < height_to ss es k t → height_to ss es k (ty.List t) ≡ height_to ss es k t
  list_above k t high = omega (arith, list_height k t, height_bounded k t)

  pub boolean_height : (k : ℕ) → height_to ss es k flat.Boolean ≡ 1
  boolean_height zero = height_zero flat.Boolean
  boolean_height (suc k) = height_Boolean ss es k

  pub integer_height : (k : ℕ) → height_to ss es k flat.Integer ≡ 1
  integer_height zero = height_zero flat.Integer
  integer_height (suc k) = height_Integer ss es k

  pub decimal_height : (k : ℕ) → height_to ss es k flat.Decimal ≡ 1
  decimal_height zero = height_zero flat.Decimal
  decimal_height (suc k) = height_Decimal ss es k

  pub money_height : (k : ℕ) → height_to ss es k flat.Money ≡ 1
  money_height zero = height_zero flat.Money
  money_height (suc k) = height_Money ss es k

  pub date_height : (k : ℕ) → height_to ss es k flat.Date ≡ 1
  date_height zero = height_zero flat.Date
  date_height (suc k) = height_Date ss es k

  pub duration_height : (k : ℕ) → height_to ss es k flat.Duration ≡ 1
  duration_height zero = height_zero flat.Duration
  duration_height (suc k) = height_Duration ss es k

-- the height of each form of type that names nothing
pub ruleset levels = (
  list_below,
  list_above,
  height_bounded,
  boolean_height,
  integer_height,
  decimal_height,
  money_height,
  date_height,
  duration_height,
)
