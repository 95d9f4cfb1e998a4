-- What is made with no list too deep depends on what the declared types depend on, and all that it names is there.
use Rattle.std.proofs.Common.{◌≡◌, ◌∙◌, ℕ, zero, suc, ◌<◌, Bool, true, false, List, [], ◌∷◌}
use Rattle.std.proofs.Common.{◌++◌, length}
use Rattle.std.proofs.Common.{map, Option, None, Some, refl, sym, ap, arith}
use Rattle.std.specs.Prelude.{◌&&◌, option_map}
use Rattle.std.specs.Option.{option_or, unwrap_or}
use Rattle.std.specs.List.{list_all}
use Rattle.std.proofs.lemmas.Bool.Decides.{nat_tests}
use Rattle.std.proofs.lemmas.List.{length-map}
use Rattle.cat_value.specs.declared.ty.Ty.{Ty}
use Rattle.cat_value.specs.declared.ty.Ty.TheVariants as flat
use Rattle.cat_value.specs.declared.declaration.Structure.{Structure}
use Rattle.cat_value.specs.declared.declaration.Enumeration.{Enumeration}
use Rattle.cat_value.specs.Declarations.{is_declared, field_is_sound, content_is_sound, case_is_sound}
use Rattle.cat_value.specs.Dependencies.{named_by, named_by_fields, named_by_content, named_by_cases, type_dependencies}
use Rattle.cat_value.proofs.Exported.{within, is_declared_Boolean, is_declared_Date, is_declared_Decimal}
use Rattle.cat_value.proofs.Exported.{is_declared_Duration, is_declared_Enumeration, is_declared_Integer}
use Rattle.cat_value.proofs.Exported.{is_declared_List, is_declared_Money, is_declared_Structure}
use Rattle.cat_tree.specs.declared.name.Name.{Name}
use Rattle.cat_tree.specs.declared.name.Base.{Base}
use Rattle.cat_tree.specs.declared.name.Base.TheVariants as base
use Rattle.cat_tree.specs.declared.name.Type as written
use Rattle.cat_tree.specs.declared.program.FieldItem.{FieldItem}
use Rattle.cat_tree.specs.declared.program.CaseItem.{CaseItem}
use Rattle.cat_tree.specs.declared.program.Item.{Item}
use Rattle.cat_names.proofs.Exported.{first_is, nested_named}
use Rattle.cat_names.specs.Lookup.{TypeNames, nested_list, first_named}
use Rattle.cat_names.specs.Written.{structures_in, enumerations_in, types_in}
use Rattle.cat_declare.specs.inside.Made.{base_made, type_made, field_made, structure_made, case_made}
use Rattle.cat_declare.specs.inside.Made.{enumeration_made, made, whole, cut}

-- ---- what is named

module _ (names : TypeNames) (s : ℕ) where
  type_named : (t : written.Type) → named_by s (type_made cut names t) ≡ named_by s (type_made whole names t)
  type_named t = nested_named s (cut t.lists) (base_made names t.base)
      ∙ sym (nested_named s t.lists (base_made names t.base))

  fields_named : (fs : List FieldItem) → named_by_fields s (map (field_made cut names) fs)
      ≡ named_by_fields s (map (field_made whole names) fs)
  fields_named [] = refl
  fields_named (f ∷ fs) = ap (λ xs. xs ++ named_by_fields s (map (field_made cut names) fs)) (type_named f.ty)
      ∙ ap (λ xs. named_by s (type_made whole names f.ty) ++ xs) (fields_named fs)

  content_named : (t : Option written.Type) → named_by_content s (option_map (type_made cut names) t)
      ≡ named_by_content s (option_map (type_made whole names) t)
  content_named None = refl
  content_named (Some t) = type_named t

  cases_named : (cs : List CaseItem) → named_by_cases s (map (case_made cut names) cs)
      ≡ named_by_cases s (map (case_made whole names) cs)
  cases_named [] = refl
  cases_named (c ∷ cs) = ap (λ xs. xs ++ named_by_cases s (map (case_made cut names) cs)) (content_named c.content)
      ∙ ap (λ xs. named_by_content s (option_map (type_made whole names) c.content) ++ xs) (cases_named cs)

  abbrev of_structures : List Structure → List (List ℕ)
  of_structures ss = map (λ (x : Structure). named_by_fields s x.fields) ss

  abbrev of_enumerations : List Enumeration → List (List ℕ)
  of_enumerations es = map (λ (x : Enumeration). named_by_cases s x.cases) es

  structures_named : (xs : List (Name × List FieldItem)) → of_structures (map (structure_made cut names) xs)
      ≡ of_structures (map (structure_made whole names) xs)
  structures_named [] = refl
  structures_named (x ∷ xs) = ap (λ ns. ns ∷ of_structures (map (structure_made cut names) xs)) (fields_named x.1)
      ∙ ap (λ ys. named_by_fields s (map (field_made whole names) x.1) ∷ ys) (structures_named xs)

  enumerations_named : (xs : List (Name × List CaseItem)) → of_enumerations (map (enumeration_made cut names) xs)
      ≡ of_enumerations (map (enumeration_made whole names) xs)
  enumerations_named [] = refl
  enumerations_named (x ∷ xs) =
      ap (λ ns. ns ∷ of_enumerations (map (enumeration_made cut names) xs)) (cases_named x.1)
      ∙ ap (λ ys. named_by_cases s (map (case_made whole names) x.1) ∷ ys) (enumerations_named xs)

pub same_dependencies : (items : List Item)
    → type_dependencies (made cut items).structures (made cut items).enumerations
    ≡ type_dependencies (made whole items).structures (made whole items).enumerations
same_dependencies items =
    let names = types_in items in let ss = structures_in items in let es = enumerations_in items in
    let s : length (map (structure_made cut names) ss) ≡ length (map (structure_made whole names) ss) =
    length-map ss (structure_made cut names) ∙ sym (length-map ss (structure_made whole names)) in
    ap (λ n. of_structures names n (map (structure_made cut names) ss)
    ++ of_enumerations names n (map (enumeration_made cut names) es)) s
    ∙ ap (λ xs. xs ++ of_enumerations names (length (map (structure_made whole names) ss))
    (map (enumeration_made cut names) es)) (structures_named names (length (map (structure_made whole names) ss)) ss)
    ∙ ap (λ xs. of_structures names (length (map (structure_made whole names) ss))
    (map (structure_made whole names) ss) ++ xs)
    (enumerations_named names (length (map (structure_made whole names) ss)) es)

-- ---- what is there

both_true : (a b : Bool) → a ≡ true → b ≡ true → (a && b) ≡ true
both_true true true h g = refl
both_true true false h g = cc g
both_true false b h g = cc h

module _ (names : TypeNames) (ss : List Structure) (es : List Enumeration)
    (structures : length names.structures ≡ length ss) (enumerations : length names.enumerations ≡ length es) where
  nested_there : (k : ℕ) (b : Ty) → is_declared ss es (nested_list k b) ≡ is_declared ss es b
  nested_there zero b = refl
  nested_there (suc k) b = is_declared_List ss es (nested_list k b) ∙ nested_there k b

  number_within : (u : List ℕ) (xs : List (List ℕ)) (f : ℕ × List ℕ) → first_named (λ name. name) u xs ≡ Some f
      → f.0 < length xs
  number_within u xs f is = within xs f.0 f.1 (first_is (λ name. name) u xs f is)

  named_there : (u : List ℕ) → is_declared ss es (base_made names (base.Named u)) ≡ true
  named_there u =
      by (first_named (λ name. name) u names.structures) refl (first_named (λ name. name) u names.enumerations) refl
    where
      by : (o : Option (ℕ × List ℕ)) → first_named (λ name. name) u names.structures ≡ o → (p : Option (ℕ × List ℕ))
          → first_named (λ name. name) u names.enumerations ≡ p
          → is_declared ss es (unwrap_or (option_or (option_map (λ x. flat.Structure x.0) o)
          (option_map (λ x. flat.Enumeration x.0) p)) flat.Boolean) ≡ true
      by (Some f) is p other = is_declared_Structure ss es f.0
          ∙ grind (arith, nat_tests, number_within u names.structures f is, structures)
      by None is (Some f) other = is_declared_Enumeration ss es f.0
          ∙ grind (arith, nat_tests, number_within u names.enumerations f other, enumerations)
      by None is None other = is_declared_Boolean ss es

  base_there : (b : Base) → is_declared ss es (base_made names b) ≡ true
  base_there base.Boolean = is_declared_Boolean ss es
  base_there base.Integer = is_declared_Integer ss es
  base_there base.Decimal = is_declared_Decimal ss es
  base_there base.Money = is_declared_Money ss es
  base_there base.Date = is_declared_Date ss es
  base_there base.Duration = is_declared_Duration ss es
  base_there (base.Named u) = named_there u

  type_there : (t : written.Type) → is_declared ss es (type_made cut names t) ≡ true
  type_there t = nested_there (cut t.lists) (base_made names t.base) ∙ base_there t.base

  fields_there : (fs : List FieldItem) → list_all (field_is_sound ss es) (map (field_made cut names) fs) ≡ true
  fields_there [] = refl
  fields_there (f ∷ fs) = both_true _ _ (type_there f.ty) (fields_there fs)

  content_there : (t : Option written.Type) → content_is_sound ss es (option_map (type_made cut names) t) ≡ true
  content_there None = refl
  content_there (Some t) = type_there t

  cases_there : (cs : List CaseItem) → list_all (case_is_sound ss es) (map (case_made cut names) cs) ≡ true
  cases_there [] = refl
  cases_there (c ∷ cs) = both_true _ _ (content_there c.content) (cases_there cs)

  pub structures_there : (xs : List (Name × List FieldItem))
      → list_all (λ s. list_all (field_is_sound ss es) s.fields) (map (structure_made cut names) xs) ≡ true
  structures_there [] = refl
  structures_there (x ∷ xs) = both_true _ _ (fields_there x.1) (structures_there xs)

  pub enumerations_there : (xs : List (Name × List CaseItem))
      → list_all (λ e. list_all (case_is_sound ss es) e.cases) (map (enumeration_made cut names) xs) ≡ true
  enumerations_there [] = refl
  enumerations_there (x ∷ xs) = both_true _ _ (cases_there x.1) (enumerations_there xs)
