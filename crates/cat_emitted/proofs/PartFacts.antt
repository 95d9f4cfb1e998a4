-- No part of a spelled declaration is wrong.
use Rattle.std.proofs.Common.{◌≡◌, ◌≢◌, ◌<◌, ◌≤◌, ◌⊎◌, ℕ, zero, suc, List, [], ◌∷◌, ◌++◌, map}
use Rattle.std.proofs.Common.{length, Option, Some, None, slice_get, inl, inr, refl, sym, ap, ◌∙◌, subst, arith}
use Rattle.std.specs.Prelude.{codes}
use Rattle.cat_scope.specs.Names.{IsOneOf}
use Rattle.cat_order.proofs.Exported.{order_of-iff_IsOrder}
use Rattle.cat_order.proofs.Theorems.{no_order_of_IsOnCycle}
use Rattle.cat_value.specs.declared.ty.Ty.{Ty}
use Rattle.cat_value.specs.declared.ty.Ty.TheVariants as flat
use Rattle.cat_value.specs.declared.declaration.Field.{Field}
use Rattle.cat_value.specs.declared.declaration.Structure.{Structure}
use Rattle.cat_value.specs.declared.declaration.Case.{Case}
use Rattle.cat_value.specs.declared.declaration.Enumeration.{Enumeration}
use Rattle.cat_value.specs.declared.declaration.Scope.{Scope}
use Rattle.cat_value.specs.declared.decls.Decls.{Decls}
use Rattle.cat_value.specs.Declarations.{highest}
use Rattle.cat_value.specs.Heights.{height_to, content_height}
use Rattle.cat_value.specs.Laws.{AreSound}
use Rattle.cat_value.proofs.Exported.{height_Structure, height_Enumeration, is_declared_Structure, within}
use Rattle.cat_value.proofs.Exported.{is_declared_Enumeration}
use Rattle.cat_value.proofs.SoundLaws.{sound_is}
use Rattle.cat_code.specs.declared.code.Tables.{Tables}
use Rattle.cat_listing.specs.Texts.{type_text}
use Rattle.cat_image.specs.declared.tables.ImageField.{ImageField}
use Rattle.cat_image.specs.declared.tables.ImageStructure.{ImageStructure}
use Rattle.cat_image.specs.declared.tables.ImageCase.{ImageCase}
use Rattle.cat_image.specs.declared.tables.ImageEnumeration.{ImageEnumeration}
use Rattle.cat_image.specs.declared.tables.ImageTables.{ImageTables}
use Rattle.cat_image.specs.Words.{Text}
use Rattle.cat_image.specs.Listed.{words_of, structure_words, enumeration_words, field_words, case_words, content_words}
use Rattle.cat_verify_tables.specs.TypeWords.{IsTypeName, IsPartName, IsHigher, HasPart, IsBase, IsMadeOf}
use Rattle.cat_verify_tables.specs.TypeWords as words
use Rattle.cat_verify_tables.specs.WrongParts.{IsWrongName, IsWrongType, IsWrongPart, ClosesCycle}
use Rattle.cat_verify_tables.specs.inside.DeclaredWords.{structures_named, enumeration_name}
use Rattle.cat_verify_tables.proofs.Exported.{IsRightStructure, NoContent, IsRightCase, IsRightEnumeration}
use Rattle.cat_verify_tables.proofs.Exported.{one_there}
use Rattle.std.proofs.lemmas.Bool.Decides.{nat_tests}
use Rattle.cat_emitted.specs.Spelled.{AreSpelledDecls, IsTypeWord, IsPartWord, AreApart}
use Rattle.cat_emitted.proofs.ListFacts.{all_at, one_mapped, all_of_one, apart_left, apart_right}
use Rattle.cat_emitted.proofs.ListFacts.{apart_across, one_of_both}
use Rattle.cat_emitted.proofs.TypeFacts as types
use Rattle.cat_emitted.proofs.Splits.{IsSplit, map_split, split_at, split_one, split_before, apart_front}

-- ---- heights go along parts

module _ (image : ImageTables) where
  pub high_less : (n : ℕ) (text : Text) → IsHigher image (suc n) text → IsHigher image n text
  high_less zero text high = words.any
  high_less (suc n) text (words.list high) = words.list (high_less n _ high)
  high_less (suc n) text (words.part has high) = words.part has (high_less n _ high)

  high_list : (n : ℕ) (text : Text) → IsHigher image n text → IsHigher image n (codes "list of " ++ text)
  high_list n text high = high_less n (codes "list of " ++ text) (words.list high)

  base_high : (n : ℕ) (text base : Text) → IsBase text base → IsHigher image n base → IsHigher image n text
  base_high n text base words.itself high = high
  base_high n text base (words.list is) high = high_list n _ (base_high n _ base is high)

  made_high : (n : ℕ) (one other : Text) → IsMadeOf image one other → IsHigher image n other → IsHigher image n one
  made_high n one other words.here high = high
  made_high n one other (words.part has base made) high =
      high_less n one (words.part has (base_high n _ _ base (made_high n _ other made high)))

  -- what is made of itself is as high as one likes
  cycle_high : (name ty : Text) → HasPart image name ty → ClosesCycle image name ty → (n : ℕ) → IsHigher image n name
  cycle_high name ty has closes zero = words.any
  cycle_high name ty has closes (suc n) =
      words.part has (base_high n ty closes.base closes.is_base
      (made_high n closes.base name closes.back (cycle_high name ty has closes n)))

wrong_name : (Spelled : Text → Type 0) (names : List Text) (name : Text) → (IsOneOf name names → ⊥) → Spelled name
    → IsWrongName Spelled names name → ⊥
wrong_name Spelled names name new spelled (inl one) = new one
wrong_name Spelled names name new spelled (inr other) = other spelled

pub part_named : (names : List Text) (name : Text) → (IsOneOf name names → ⊥) → IsPartWord name
    → IsWrongName IsPartName names name → ⊥
part_named names name new w = wrong_name IsPartName names name new (w.word, w.free)

pub type_named : (names : List Text) (name : Text) → (IsOneOf name names → ⊥) → IsTypeWord name
    → IsWrongName IsTypeName names name → ⊥
type_named names name new w = wrong_name IsTypeName names name new w.word

pub sound : (ds : Decls) → AreSound ds
sound ds = sound_is order_of-iff_IsOrder no_order_of_IsOnCycle ds

module _ (code : Tables) (files : List Text) (spelled : AreSpelledDecls code.decls) where
  abbrev ds : Decls
  ds = code.decls

  abbrev image : ImageTables
  image = words_of code files

  -- ---- types

  pub right_type : (k : ℕ) (t : Ty) → types.IsDeclared code files spelled t
      → height_to ds.structures ds.enumerations k t ≤ k → IsWrongType image k (type_text ds t) → ⊥
  right_type k t declared low (inl unknown) = unknown (types.type_known code files spelled t declared)
  right_type k t declared low (inr high) = types.type_low code files spelled k t declared low high

  declared_structure : (n : ℕ) (s : Structure) → slice_get ds.structures n ≡ Some s
      → types.IsDeclared code files spelled (flat.Structure n)
  declared_structure n s at =
      let there = within ds.structures n s at in
      let is = is_declared_Structure ds.structures ds.enumerations n in grind (arith, nat_tests, there, is)

  declared_enumeration : (n : ℕ) (e : Enumeration) → slice_get ds.enumerations n ≡ Some e
      → types.IsDeclared code files spelled (flat.Enumeration n)
  declared_enumeration n e at =
      let there = within ds.enumerations n e at in
      let is = is_declared_Enumeration ds.structures ds.enumerations n in grind (arith, nat_tests, there, is)

  -- ---- fields

  field_low : (n : ℕ) (s : Structure) (f : Field) → slice_get ds.structures n ≡ Some s → IsOneOf f s.fields
      → height_to ds.structures ds.enumerations 63 f.ty ≤ 63
  field_low n s f at one =
      let low = ((sound ds).structures n s at).low in
      let count = height_Structure ds.structures ds.enumerations 63 n s at in
      let part = types.field_below (height_to ds.structures ds.enumerations 63) s.fields f one in
      omega (arith, low, count, part)

  field_part : (n : ℕ) (s : Structure) (f : Field) → slice_get ds.structures n ≡ Some s → IsOneOf f s.fields
      → HasPart image s.name (type_text ds f.ty)
  field_part n s f at one =
      words.field (structure_words ds s) (field_words ds f)
      (one_mapped (structure_words ds) s ds.structures (one_there ds.structures n s at))
      (one_mapped (field_words ds) f s.fields one)

  right_field : (n : ℕ) (s : Structure) (f : Field) → slice_get ds.structures n ≡ Some s → IsOneOf f s.fields
      → IsWrongPart image s.name (type_text ds f.ty) → ⊥
  right_field n s f at one (inl wrong) =
      right_type 63 f.ty (types.field_declared code files spelled n s f at one) (field_low n s f at one) wrong
  right_field n s f at one (inr closes) =
      types.type_low code files spelled highest (flat.Structure n) (declared_structure n s at)
      ((sound ds).structures n s at).low
      (subst (IsHigher image highest) (sym (types.structure_text code files spelled n s at))
      (cycle_high image s.name (type_text ds f.ty) (field_part n s f at one) closes highest))

  -- ---- contents

  content_low : (n : ℕ) (e : Enumeration) (c : Case) (t : Ty) → slice_get ds.enumerations n ≡ Some e
      → IsOneOf c e.cases → c.content ≡ Some t → height_to ds.structures ds.enumerations 63 t ≤ 63
  content_low n e c t at one is =
      let low = ((sound ds).enumerations n e at).low in
      let height = height_to ds.structures ds.enumerations 63 in
      let count = height_Enumeration ds.structures ds.enumerations 63 n e at in
      let part = types.content_below height e.cases c one in
      let own : content_height height c.content ≡ height t = ap (content_height height) is in
      omega (arith, low, count, part, own)

  content_part : (n : ℕ) (e : Enumeration) (c : Case) (t : Ty) → slice_get ds.enumerations n ≡ Some e
      → IsOneOf c e.cases → c.content ≡ Some t → HasPart image e.name (type_text ds t)
  content_part n e c t at one is =
      words.content (enumeration_words ds e) (case_words ds c) (type_text ds t)
      (one_mapped (enumeration_words ds) e ds.enumerations (one_there ds.enumerations n e at))
      (one_mapped (case_words ds) c e.cases one) (ap (content_words ds) is)

  right_content : (n : ℕ) (e : Enumeration) (c : Case) (t : Ty) → slice_get ds.enumerations n ≡ Some e
      → IsOneOf c e.cases → c.content ≡ Some t → IsWrongPart image e.name (type_text ds t) → ⊥
  right_content n e c t at one is (inl wrong) =
      right_type 63 t (types.case_declared code files spelled n e c t at one is) (content_low n e c t at one is) wrong
  right_content n e c t at one is (inr closes) =
      types.type_low code files spelled highest (flat.Enumeration n) (declared_enumeration n e at)
      ((sound ds).enumerations n e at).low
      (subst (IsHigher image highest) (sym (types.enumeration_text code files spelled n e at))
      (cycle_high image e.name (type_text ds t) (content_part n e c t at one is) closes highest))

  no_content : (n : ℕ) (e : Enumeration) (c : Case) → slice_get ds.enumerations n ≡ Some e → IsOneOf c e.cases
      → NoContent image e.name (content_words ds c.content)
  no_content n e c at one = by c.content refl
    where
      by : (o : Option Ty) → c.content ≡ o → NoContent image e.name (content_words ds o)
      by None is = tt
      by (Some t) is = right_content n e c t at one is

  -- ---- structures

  some_fields : (s : Structure) → 0 < length s.fields → map (field_words ds) s.fields ≢ []
  some_fields s some none = by s.fields some none
    where
      by : (fs : List Field) → 0 < length fs → map (field_words ds) fs ≡ [] → ⊥
      by [] more is = omega (arith, more)
      by (f ∷ fs) more is = cc is

  structure_names_apart : AreApart (map (λ (s : Structure). s.name) ds.structures)
  structure_names_apart =
      apart_left (types.structure_names code files spelled) (types.enumeration_names code files spelled)
      (apart_left (types.structure_names code files spelled ++ types.enumeration_names code files spelled)
      (map (λ (c : Scope). c.name) ds.scopes) spelled.apart)

  named_before : (front : List Structure) → map (λ (r : ImageStructure). r.name) (map (structure_words ds) front)
      ≡ map (λ (s : Structure). s.name) front
  named_before [] = refl
  named_before (s ∷ front) = ap (λ (ts : List Text). s.name ∷ ts) (named_before front)

  fields_before : (front : List Field) → map (λ (g : ImageField). g.name) (map (field_words ds) front)
      ≡ map (λ (f : Field). f.name) front
  fields_before [] = refl
  fields_before (f ∷ front) = ap (λ (ts : List Text). f.name ∷ ts) (fields_before front)

  structure_fields : (n : ℕ) (s : Structure) → slice_get ds.structures n ≡ Some s → (before : List ImageField)
      (f : ImageField) (after : List ImageField) → map (field_words ds) s.fields ≡ before ++ f ∷ after
      → (IsWrongName IsPartName (map (λ (g : ImageField). g.name) before) f.name → ⊥)
      × (IsWrongPart image s.name f.ty → ⊥)
  structure_fields n s at before f after is =
      let own = map_split (field_words ds) s.fields before f after is in
      let one = split_one (field_words ds) s.fields before f own in
      let word = all_at _ ds.structures n s spelled.structures at in
      let names : map (λ (g : ImageField). g.name) before ≡ map (λ (g : Field). g.name) own.front =
      ap (map (λ (g : ImageField). g.name)) (sym own.before_is) ∙ fields_before own.front in
      subst (λ (g : ImageField). (IsWrongName IsPartName (map (λ (g : ImageField). g.name) before) g.name → ⊥)
      × (IsWrongPart image s.name g.ty → ⊥)) own.entry_is (
        part_named (map (λ (g : ImageField). g.name) before) own.entry.name
            (λ among. apart_front (λ (g : Field). g.name) s.fields own.front own.entry own.rest own.are word.apart
            (subst (IsOneOf own.entry.name) names among))
            (all_of_one _ s.fields own.entry word.fields one),
        right_field n s own.entry at one,
      )

  structure_right : (n : ℕ) (s : Structure) (names : List Text) → slice_get ds.structures n ≡ Some s
      → (IsOneOf s.name names → ⊥) → IsRightStructure image names (structure_words ds s)
  structure_right n s names at new = record {
    name = type_named names s.name new (all_at _ ds.structures n s spelled.structures at).name;
    some = some_fields s ((sound ds).structures n s at).has_field;
    fields = structure_fields n s at;
  }

  pub structures_are_right : (before : List ImageStructure) (s : ImageStructure) (after : List ImageStructure)
      → image.structures ≡ before ++ s ∷ after
      → IsRightStructure image (map (λ (r : ImageStructure). r.name) before) s
  structures_are_right before s after is =
      let own = map_split (structure_words ds) ds.structures before s after is in
      let at = split_at (structure_words ds) ds.structures before s own in
      let names : map (λ (r : ImageStructure). r.name) before ≡ map (λ (r : Structure). r.name) own.front =
      ap (map (λ (r : ImageStructure). r.name)) (sym own.before_is) ∙ named_before own.front in
      subst (IsRightStructure image (map (λ (r : ImageStructure). r.name) before)) own.entry_is
      (structure_right (length own.front) own.entry (map (λ (r : ImageStructure). r.name) before) at
      (λ among. apart_front (λ (r : Structure). r.name) ds.structures own.front own.entry own.rest own.are
      structure_names_apart (subst (IsOneOf own.entry.name) names among)))

  -- ---- enumerations

  some_cases : (e : Enumeration) → 0 < length e.cases → map (case_words ds) e.cases ≢ []
  some_cases e some none = by e.cases some none
    where
      by : (cs : List Case) → 0 < length cs → map (case_words ds) cs ≡ [] → ⊥
      by [] more is = omega (arith, more)
      by (c ∷ cs) more is = cc is

  cases_before : (front : List Case) → map (λ (c : ImageCase). c.name) (map (case_words ds) front)
      ≡ map (λ (c : Case). c.name) front
  cases_before [] = refl
  cases_before (c ∷ front) = ap (λ (ts : List Text). c.name ∷ ts) (cases_before front)

  case_right : (n : ℕ) (e : Enumeration) → slice_get ds.enumerations n ≡ Some e → (before : List ImageCase)
      (c : ImageCase) (after : List ImageCase) → map (case_words ds) e.cases ≡ before ++ c ∷ after
      → IsRightCase image e.name before c
  case_right n e at before c after is =
      let own = map_split (case_words ds) e.cases before c after is in
      let one = split_one (case_words ds) e.cases before c own in
      let word = all_at _ ds.enumerations n e spelled.enumerations at in
      let names : map (λ (g : ImageCase). g.name) before ≡ map (λ (g : Case). g.name) own.front =
      ap (map (λ (g : ImageCase). g.name)) (sym own.before_is) ∙ cases_before own.front in
      let count = split_before (case_words ds) e.cases before c own in
      let most = word.few in
      subst (IsRightCase image e.name before) own.entry_is (record {
        right = type_named (map (λ (g : ImageCase). g.name) before) own.entry.name
            (λ among. apart_front (λ (g : Case). g.name) e.cases own.front own.entry own.rest own.are word.apart
            (subst (IsOneOf own.entry.name) names among))
            (all_of_one _ e.cases own.entry word.cases one);
        content = no_content n e own.entry at one;
        few = λ many. omega (arith, many, count, most);
      })

  enumerations_before : (front : List Enumeration) → map enumeration_name (map (enumeration_words ds) front)
      ≡ map (λ (e : Enumeration). e.name) front
  enumerations_before [] = refl
  enumerations_before (e ∷ front) = ap (λ (ts : List Text). e.name ∷ ts) (enumerations_before front)

  enumeration_right : (n : ℕ) (e : Enumeration) (names : List Text) → slice_get ds.enumerations n ≡ Some e
      → (IsOneOf e.name names → ⊥) → IsRightEnumeration image names (enumeration_words ds e)
  enumeration_right n e names at new = record {
    name = type_named names e.name new (all_at _ ds.enumerations n e spelled.enumerations at).name;
    some = some_cases e ((sound ds).enumerations n e at).has_case;
    cases = case_right n e at;
  }

  pub enumerations_are_right : (before : List ImageEnumeration) (e : ImageEnumeration) (after : List ImageEnumeration)
      → image.enumerations ≡ before ++ e ∷ after
      → IsRightEnumeration image (structures_named image ++ map enumeration_name before) e
  enumerations_are_right before e after is =
      let own = map_split (enumeration_words ds) ds.enumerations before e after is in
      let at = split_at (enumeration_words ds) ds.enumerations before e own in
      let ss = map (λ (s : Structure). s.name) ds.structures in
      let names : structures_named image ++ map enumeration_name before
      ≡ ss ++ map (λ (r : Enumeration). r.name) own.front =
      ap (λ (ts : List Text). ts ++ map enumeration_name before) (named_before ds.structures)
      ∙ ap (λ (ts : List Text). ss ++ ts)
      (ap (map enumeration_name) (sym own.before_is) ∙ enumerations_before own.front) in
      subst (IsRightEnumeration image (structures_named image ++ map enumeration_name before)) own.entry_is
      (enumeration_right (length own.front) own.entry (structures_named image ++ map enumeration_name before) at
      (λ among. new own (subst (IsOneOf own.entry.name) names among)))
    where
      apart : AreApart (types.structure_names code files spelled ++ types.enumeration_names code files spelled)
      apart = apart_left (types.structure_names code files spelled ++ types.enumeration_names code files spelled)
          (map (λ (c : Scope). c.name) ds.scopes) spelled.apart

      new : (own : IsSplit (enumeration_words ds) ds.enumerations before e)
          → IsOneOf own.entry.name (map (λ (s : Structure). s.name) ds.structures
          ++ map (λ (r : Enumeration). r.name) own.front) → ⊥
      new own among = by (one_of_both _ _ own.entry.name among)
        where
          by : IsOneOf own.entry.name (map (λ (s : Structure). s.name) ds.structures)
              ⊎ IsOneOf own.entry.name (map (λ (r : Enumeration). r.name) own.front) → ⊥
          by (inl one) = apart_across (types.structure_names code files spelled)
              (types.enumeration_names code files spelled) own.entry.name apart one
              (one_mapped (λ (r : Enumeration). r.name) own.entry ds.enumerations
              (split_one (enumeration_words ds) ds.enumerations before e own))
          by (inr one) = apart_front (λ (r : Enumeration). r.name) ds.enumerations own.front own.entry own.rest own.are
              (apart_right (types.structure_names code files spelled) (types.enumeration_names code files spelled)
              apart) one
