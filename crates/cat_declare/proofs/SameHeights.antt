-- What is made with no list deeper than types may be high is as high, as far as heights are told apart, as what is
-- declared.
use Rattle.std.proofs.Common.{◌≡◌, ◌∙◌, ℕ, zero, suc, ◌+◌, ◌≤◌, ◌&&◌, min, not, nat_le, List, [], ◌∷◌}
use Rattle.std.proofs.Common.{◌++◌, map, Option, None, Some, slice_get, refl, sym, ap, arith}
use Rattle.std.specs.Prelude.{flat_map, option_map}
use Rattle.std.proofs.lemmas.Option.{slice_get-map}
use Rattle.cat_value.specs.declared.ty.Ty.{Ty}
use Rattle.cat_value.specs.declared.ty.Ty.TheOpen.{Ty-F}
use Rattle.cat_value.specs.declared.ty.Ty.TheVariants as flat
use Rattle.cat_value.specs.declared.ty.Ty.TheViews.{out-Ty}
use Rattle.cat_value.specs.declared.declaration.Structure.{Structure}
use Rattle.cat_value.specs.declared.declaration.Enumeration.{Enumeration}
use Rattle.cat_value.specs.Declarations.{highest}
use Rattle.cat_value.specs.Heights.{height_to, highest_field, content_height, highest_content, structure_parts}
use Rattle.cat_value.specs.Heights.{enumeration_parts, highest_part}
use Rattle.cat_value.proofs.Exported.{height_bounded, height_step, height_zero, list_height}
use Rattle.cat_tree.specs.declared.name.Name.{Name}
use Rattle.cat_tree.specs.declared.name.Type as written
use Rattle.cat_tree.specs.declared.program.FieldItem.{FieldItem}
use Rattle.cat_tree.specs.declared.program.CaseItem.{CaseItem}
use Rattle.cat_tree.specs.declared.program.Item.{Item}
use Rattle.cat_tree.specs.declared.program.Tree.{Tree}
use Rattle.cat_names.specs.declared.fault.Fault.TheVariants.{TooMany}
use Rattle.cat_names.specs.Found.{fault_if}
use Rattle.cat_names.specs.Lists.{numbered}
use Rattle.cat_names.specs.Lookup.{TypeNames, base_type, nested_list, type_written}
use Rattle.cat_names.specs.Written.{structures_in, enumerations_in, types_in, names_of}
use Rattle.cat_names.specs.Declarations.{Declared}
use Rattle.cat_names.specs.Heights.{is_high, has_low_parts, high_named, is_high_list, high_list, types_written}
use Rattle.cat_names.specs.Heights.{height_faults}
use Rattle.cat_declare.specs.inside.Made.{base_made, type_made, field_made, structure_made, case_made}
use Rattle.cat_declare.specs.inside.Made.{enumeration_made, made, whole, cut}

-- ---- one type

module _ (ss : List Structure) (es : List Enumeration) where
  pub height_positive : (k : ℕ) (t : Ty) → 1 ≤ height_to ss es k t
  height_positive zero t = omega (arith, height_zero ss es t)
  height_positive (suc k) t = omega (arith, height_step ss es k t)

  pub nested_height : (k n : ℕ) (t : Ty)
      → height_to ss es k (nested_list n t) ≡ min (suc k) (n + height_to ss es k t)
  nested_height k zero t = omega (arith, height_bounded ss es k t)
  nested_height k (suc n) t = omega (arith, list_height ss es k (nested_list n t), nested_height k n t)

-- ---- two measures that agree on what is written

module _ (names : TypeNames) (f g : Ty → ℕ)
    (on : (t : written.Type) → f (type_made cut names t) ≡ g (type_made whole names t)) where
  fields_same : (fs : List FieldItem)
      → highest_field f (map (field_made cut names) fs) ≡ highest_field g (map (field_made whole names) fs)
  fields_same [] = refl
  fields_same (x ∷ xs) = omega (arith, on x.ty, fields_same xs)

  content_same : (t : Option written.Type) → content_height f (option_map (type_made cut names) t)
      ≡ content_height g (option_map (type_made whole names) t)
  content_same None = refl
  content_same (Some t) = on t

  cases_same : (cs : List CaseItem)
      → highest_content f (map (case_made cut names) cs) ≡ highest_content g (map (case_made whole names) cs)
  cases_same [] = refl
  cases_same (c ∷ cs) = omega (arith, content_same c.content, cases_same cs)

  structure_same : (s : Option (Name × List FieldItem)) → structure_parts f (option_map (structure_made cut names) s)
      ≡ structure_parts g (option_map (structure_made whole names) s)
  structure_same None = refl
  structure_same (Some s) = fields_same s.1

  enumeration_same : (e : Option (Name × List CaseItem))
      → enumeration_parts f (option_map (enumeration_made cut names) e)
      ≡ enumeration_parts g (option_map (enumeration_made whole names) e)
  enumeration_same None = refl
  enumeration_same (Some e) = cases_same e.1

-- ---- all types

module _ (items : List Item) where
  abbrev names : TypeNames
  names = types_in items

  abbrev kept : Declared
  kept = made cut items

  abbrev all : Declared
  all = made whole items

  abbrev kept_height : ℕ → Ty → ℕ
  kept_height k = height_to kept.structures kept.enumerations k

  abbrev all_height : ℕ → Ty → ℕ
  all_height k = height_to all.structures all.enumerations k

  written_same : (k : ℕ) → k ≤ highest → ((t : Ty) → kept_height k t ≡ all_height k t) → (t : written.Type)
      → kept_height k (type_made cut names t) ≡ all_height k (type_made whole names t)
  written_same k low same t = let b = base_made names t.base in omega (
    arith,
    nested_height kept.structures kept.enumerations k (cut t.lists) b,
    nested_height all.structures all.enumerations k t.lists b,
    same b,
    height_positive all.structures all.enumerations k b,
  )

  parts_same : (k : ℕ) → k ≤ highest → ((t : Ty) → kept_height k t ≡ all_height k t) → (y : Ty-F Ty)
      → highest_part kept.structures kept.enumerations (kept_height k) y
      ≡ highest_part all.structures all.enumerations (all_height k) y
  parts_same k low same (Ty-F.List t) = same t
  parts_same k low same (Ty-F.Structure n) =
      ap (structure_parts (kept_height k)) (slice_get-map (structure_made cut names) (structures_in items) n)
      ∙ structure_same names (kept_height k) (all_height k) (written_same k low same)
      (slice_get (structures_in items) n)
      ∙ sym (ap (structure_parts (all_height k))
      (slice_get-map (structure_made whole names) (structures_in items) n))
  parts_same k low same (Ty-F.Enumeration n) =
      ap (enumeration_parts (kept_height k)) (slice_get-map (enumeration_made cut names) (enumerations_in items) n)
      ∙ enumeration_same names (kept_height k) (all_height k) (written_same k low same)
      (slice_get (enumerations_in items) n)
      ∙ sym (ap (enumeration_parts (all_height k))
      (slice_get-map (enumeration_made whole names) (enumerations_in items) n))
  parts_same k low same _ = refl

  pub same_height : (k : ℕ) → k ≤ highest → (t : Ty) → kept_height k t ≡ all_height k t
  same_height zero low t = height_zero kept.structures kept.enumerations t
      ∙ sym (height_zero all.structures all.enumerations t)
  same_height (suc k) low t = height_step kept.structures kept.enumerations k t
      ∙ ap (λ (n : ℕ). 1 + n) (parts_same k (omega (arith, low)) (same_height k (omega (arith, low))) (out-Ty t))
      ∙ sym (height_step all.structures all.enumerations k t)

  same_high : (t : Ty) → is_high kept t ≡ is_high all t
  same_high t = ap (λ h. not (nat_le h highest)) (same_height highest (omega arith) t)

  same_low_parts : (t : Ty) → has_low_parts kept t ≡ has_low_parts all t
  same_low_parts t =
      ap (λ h. nat_le h highest) (parts_same highest (omega arith) (same_height highest (omega arith)) (out-Ty t))

-- ---- faults

flat_same : {A B : Type 0} (f g : A → List B) → ((x : A) → f x ≡ g x) → (xs : List A) → flat_map f xs ≡ flat_map g xs
flat_same f g same [] = refl
flat_same f g same (x ∷ xs) = ap (λ ys. ys ++ flat_map f xs) (same x) ∙ ap (λ ys. g x ++ ys) (flat_same f g same xs)

module _ (items : List Item) where
  same_named : (of_number : ℕ → Ty) (ws : List Name)
      → high_named (made cut items) of_number ws ≡ high_named (made whole items) of_number ws
  same_named of_number ws = flat_same _ _ (λ (w : ℕ × Name).
      ap (λ b. fault_if (b && has_low_parts (made cut items) (of_number w.0)) (TooMany w.1.pos))
      (same_high items (of_number w.0))
      ∙ ap (λ b. fault_if (is_high (made whole items) (of_number w.0) && b) (TooMany w.1.pos))
      (same_low_parts items (of_number w.0))) (numbered ws)

  same_high_list : (t base : Option Ty)
      → is_high_list (made cut items) t base ≡ is_high_list (made whole items) t base
  same_high_list (Some t) (Some b) = ap (λ h. h && not (is_high (made cut items) b)) (same_high items t)
      ∙ ap (λ h. is_high (made whole items) t && not h) (same_high items b)
  same_high_list (Some t) None = refl
  same_high_list None (Some b) = refl
  same_high_list None None = refl

  same_list : (names : TypeNames) (t : written.Type)
      → high_list (made cut items) names t ≡ high_list (made whole items) names t
  same_list names t =
      ap (λ b. fault_if b (TooMany t.pos)) (same_high_list (type_written names t) (base_type names t.base))

pub same_height_faults : (tree : Tree)
    → height_faults tree (made cut tree.items) ≡ height_faults tree (made whole tree.items)
same_height_faults tree =
    let items = tree.items in
    let ss = names_of (structures_in items) in let es = names_of (enumerations_in items) in
    let ts = flat_map types_written items in
    ap (λ fs. fs ++ high_named (made cut items) flat.Enumeration es
    ++ flat_map (high_list (made cut items) (types_in items)) ts) (same_named items flat.Structure ss)
    ∙ ap (λ fs. high_named (made whole items) flat.Structure ss ++ fs
    ++ flat_map (high_list (made cut items) (types_in items)) ts) (same_named items flat.Enumeration es)
    ∙ ap (λ fs. high_named (made whole items) flat.Structure ss ++ high_named (made whole items) flat.Enumeration es
    ++ fs) (flat_same _ _ (same_list items (types_in items)) ts)
