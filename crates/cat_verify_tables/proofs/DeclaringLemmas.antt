-- What lines declare is sound.
use Rattle.std.proofs.Common.{◌≡◌, ◌≢◌, ◌<◌, suc, nat_lt, List, [], ◌∷◌}
use Rattle.std.proofs.Common.{◌++◌, length, Option, Some, None, IsTrue, refl, ap, arith}
use Rattle.std.specs.List.{list_all}
use Rattle.std.proofs.lemmas.Bool.Decides.{nat_tests}
use Rattle.std.specs.Cmp.Derive.{both_true}
use Rattle.cat_pos.specs.declared.limits.TheConstants.{ENTRIES_BOUND}
use Rattle.cat_scope.specs.Names.{AllHave}
use Rattle.cat_value.specs.declared.ty.Ty.{Ty}
use Rattle.cat_value.specs.declared.declaration.Structure.{Structure}
use Rattle.cat_value.specs.declared.declaration.Enumeration.{Enumeration}
use Rattle.cat_value.specs.Declarations.{has_parts, field_is_sound, content_is_sound}
use Rattle.cat_value.specs.Declarations.{case_is_sound, structure_is_sound, enumeration_is_sound}
use Rattle.cat_image.specs.declared.tables.ImageStructure.{ImageStructure}
use Rattle.cat_image.specs.declared.tables.ImageEnumeration.{ImageEnumeration}
use Rattle.cat_image.specs.Words.{Text}
use Rattle.cat_verify_tables.specs.declared.types.TypeNames.{TypeNames}
use Rattle.cat_verify_tables.specs.inside.Entries.{AreTold}
use Rattle.cat_verify_tables.specs.inside.PartWords.{IsFieldOf, field_names, IsStructureOf, IsContentOf}
use Rattle.cat_verify_tables.specs.inside.PartWords.{IsCaseOf, case_names, IsEnumerationOf}
use Rattle.cat_verify_tables.proofs.NumberLemmas.{AreNumbered, spelled_declared}
use Rattle.cat_verify_tables.proofs.SoundLemmas.{all_test}

-- ---- what holds of all that is told of

pub told_many : {A B : Type 0} (Told : List A → A → B → Type 0) (front xs : List A) (ys : List B)
    → AreTold Told front xs ys → length ys ≡ length xs
told_many Told front [] [] told = refl
told_many Told front [] (y ∷ ys) told = absurd told
told_many Told front (x ∷ xs) [] told = absurd told
told_many Told front (x ∷ xs) (y ∷ ys) told = ap suc (told_many Told (front ++ x ∷ []) xs ys told.1)

pub told_have : {A B : Type 0} (Told : List A → A → B → Type 0) (P : A → Type 0) (Q : B → Type 0)
    → ((front : List A) (x : A) (y : B) → P x → Told front x y → Q y) → (front xs : List A) (ys : List B)
    → AllHave P xs → AreTold Told front xs ys → AllHave Q ys
told_have Told P Q each front [] [] all told = tt
told_have Told P Q each front [] (y ∷ ys) all told = absurd told
told_have Told P Q each front (x ∷ xs) [] all told = absurd told
told_have Told P Q each front (x ∷ xs) (y ∷ ys) all told =
    (each front x y all.0 told.0, told_have Told P Q each (front ++ x ∷ []) xs ys all.1 told.1)

pub told_each : {A B : Type 0} (Told : List A → A → B → Type 0) (Q : B → Type 0)
    → ((front : List A) (x : A) (y : B) → Told front x y → Q y) → (front xs : List A) (ys : List B)
    → AreTold Told front xs ys → AllHave Q ys
told_each Told Q each front [] [] told = tt
told_each Told Q each front [] (y ∷ ys) told = absurd told
told_each Told Q each front (x ∷ xs) [] told = absurd told
told_each Told Q each front (x ∷ xs) (y ∷ ys) told =
    (each front x y told.0, told_each Told Q each (front ++ x ∷ []) xs ys told.1)

some_parts : {A B : Type 0} (xs : List A) (ys : List B) → length ys ≡ length xs → xs ≢ [] → length xs < ENTRIES_BOUND
    → IsTrue (has_parts ys)
some_parts [] ys many some few = absurd (some refl)
some_parts (x ∷ xs) ys many some few =
    both_true {s = nat_lt 0 (length ys)} {t = nat_lt (length ys) ENTRIES_BOUND} (grind (arith, nat_tests, many))
    (grind (arith, nat_tests, many, few))

-- ---- structures and enumerations

module _ (types : TypeNames) (S E : List Text) (are : AreNumbered types S E) (ss : List Structure)
    (es : List Enumeration) (many : length ss ≡ length S) (more : length es ≡ length E) where
  structure_sound : (front : List ImageStructure) (line : ImageStructure) (s : Structure)
      → length line.fields < ENTRIES_BOUND → IsStructureOf types line s → IsTrue (structure_is_sound ss es s)
  structure_sound front line s few told = both_true
      (some_parts line.fields s.fields (told_many _ [] line.fields s.fields told.fields) told.some few)
      (all_test (field_is_sound ss es) s.fields (told_each (λ fs. IsFieldOf types (field_names fs))
      (λ f. IsTrue (field_is_sound ss es f))
      (λ fs f field is. spelled_declared types S E are ss es many more f.ty field.ty is.ty) [] line.fields s.fields
      told.fields))

  content_sound : (text : Option Text) (content : Option Ty) → IsContentOf types text content
      → IsTrue (content_is_sound ss es content)
  content_sound None None told = refl
  content_sound None (Some t) told = absurd told
  content_sound (Some w) None told = absurd told
  content_sound (Some w) (Some t) told = spelled_declared types S E are ss es many more w t told

  enumeration_sound : (front : List ImageEnumeration) (line : ImageEnumeration) (e : Enumeration)
      → length line.cases < ENTRIES_BOUND → IsEnumerationOf types line e → IsTrue (enumeration_is_sound ss es e)
  enumeration_sound front line e few told = both_true
      (some_parts line.cases e.cases (told_many _ [] line.cases e.cases told.cases.each) told.some few)
      (all_test (case_is_sound ss es) e.cases (told_each (λ cs. IsCaseOf types (case_names cs))
      (λ c. IsTrue (case_is_sound ss es c))
      (λ cs c case is. content_sound c.content case.content is.content) [] line.cases e.cases told.cases.each))

  pub structures_sound : (lines : List ImageStructure) → AllHave (λ s. length s.fields < ENTRIES_BOUND) lines
      → AreTold (λ _. IsStructureOf types) [] lines ss → IsTrue (list_all (structure_is_sound ss es) ss)
  structures_sound lines few told = all_test (structure_is_sound ss es) ss
      (told_have (λ _. IsStructureOf types) (λ s. length s.fields < ENTRIES_BOUND)
      (λ s. IsTrue (structure_is_sound ss es s)) structure_sound [] lines ss few told)

  pub enumerations_sound : (lines : List ImageEnumeration) → AllHave (λ e. length e.cases < ENTRIES_BOUND) lines
      → AreTold (λ _. IsEnumerationOf types) [] lines es → IsTrue (list_all (enumeration_is_sound ss es) es)
  enumerations_sound lines few told = all_test (enumeration_is_sound ss es) es
      (told_have (λ _. IsEnumerationOf types) (λ e. length e.cases < ENTRIES_BOUND)
      (λ e. IsTrue (enumeration_is_sound ss es e)) enumeration_sound [] lines es few told)
