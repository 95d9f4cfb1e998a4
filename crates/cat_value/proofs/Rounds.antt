-- The heights that one level more tells apart.
use Rattle.std.proofs.Common.{◌≡◌, ◌∙◌, ℕ, ◌+◌, List, map, Option, None, Some, slice_get, refl, sym, ap}
use Rattle.std.specs.Option.{option_map, unwrap_or}
use Rattle.std.proofs.lemmas.Option.{slice_get-map}
use Rattle.std.proofs.Math.Numerals.{suc-eq-add-one}
use Rattle.cat_value.specs.declared.ty.Ty.{Ty}
use Rattle.cat_value.specs.declared.ty.Ty.TheVariants as flat
use Rattle.cat_value.specs.declared.ty.Ty.TheViews as ty
use Rattle.cat_value.specs.declared.declaration.Structure.{Structure}
use Rattle.cat_value.specs.declared.declaration.Enumeration.{Enumeration}
use Rattle.cat_value.specs.Heights.{height_to, highest_field, highest_content, structure_parts, enumeration_parts}
use Rattle.cat_value.specs.Heights.{highest_part}
use Rattle.cat_value.specs.Table.{height_in}
use Rattle.cat_value.proofs.Levels.{height_step}

module _ (ss : List Structure) (es : List Enumeration) (k : ℕ) where
  abbrev structure_height : Structure → ℕ
  structure_height s = 1 + highest_field (height_to ss es k) s.fields

  abbrev enumeration_height : Enumeration → ℕ
  enumeration_height e = 1 + highest_content (height_to ss es k) e.cases

  next_level : (t : Ty) → height_to ss es (k + 1) t ≡ 1 + highest_part ss es (height_to ss es k) (ty.out-Ty t)
  next_level t = ap (λ n. height_to ss es n t) (sym (suc-eq-add-one k)) ∙ height_step ss es k t

  structure_there : (o : Option Structure)
      → unwrap_or (option_map structure_height o) 1 ≡ 1 + structure_parts (height_to ss es k) o
  structure_there None = refl
  structure_there (Some s) = refl

  enumeration_there : (o : Option Enumeration)
      → unwrap_or (option_map enumeration_height o) 1 ≡ 1 + enumeration_parts (height_to ss es k) o
  enumeration_there None = refl
  enumeration_there (Some e) = refl

  pub structures_deeper : (made : List ℕ) → made ≡ map (λ s. 1 + highest_field (height_to ss es k) s.fields) ss
      → (n : ℕ) → height_in made n ≡ height_to ss es (k + 1) (flat.Structure n)
  structures_deeper made is n = ap (λ xs. height_in xs n) is
      ∙ ap (λ o. unwrap_or o 1) (slice_get-map structure_height ss n) ∙ structure_there (slice_get ss n)
      ∙ sym (next_level (flat.Structure n)
      ∙ ap (λ y. 1 + highest_part ss es (height_to ss es k) y) (ty.outs-Structure n))

  pub enumerations_deeper : (made : List ℕ) → made ≡ map (λ e. 1 + highest_content (height_to ss es k) e.cases) es
      → (n : ℕ) → height_in made n ≡ height_to ss es (k + 1) (flat.Enumeration n)
  enumerations_deeper made is n = ap (λ xs. height_in xs n) is
      ∙ ap (λ o. unwrap_or o 1) (slice_get-map enumeration_height es n) ∙ enumeration_there (slice_get es n)
      ∙ sym (next_level (flat.Enumeration n)
      ∙ ap (λ y. 1 + highest_part ss es (height_to ss es k) y) (ty.outs-Enumeration n))
