-- What types name is there.
use Rattle.std.proofs.Common.{◌≡◌, ◌<◌, ◌+◌, ℕ, zero, suc, nat_eq, Bool, true, IsTrue, List, [], ◌∷◌, ◌++◌}
use Rattle.std.proofs.Common.{length}
use Rattle.std.proofs.Common.{map, get_or, Option, Some, None, All, refl, sym, ◌∙◌, arith, true≢false, ◌⊎◌}
use Rattle.std.proofs.Common.{inl, inr}
use Rattle.std.specs.List.{list_all}
use Rattle.std.proofs.lemmas.Bool.{and_parts}
use Rattle.std.specs.Cmp.Derive.{both_true}
use Rattle.std.proofs.lemmas.Bool.Decides.{nat_tests}
use Rattle.std.proofs.lemmas.List.{length-append, length-map}
use Rattle.cat_order.specs.Order.{AreItems, is_listed}
use Rattle.cat_pos.specs.declared.limits.TheConstants.{ENTRIES_BOUND}
use Rattle.cat_scope.specs.Names.{AllHave}
use Rattle.cat_scope.proofs.Exported.{all_append}
use Rattle.cat_value.specs.declared.ty.Ty.{Ty}
use Rattle.cat_value.specs.declared.declaration.Field.{Field}
use Rattle.cat_value.specs.declared.declaration.Structure.{Structure}
use Rattle.cat_value.specs.declared.declaration.Case.{Case}
use Rattle.cat_value.specs.declared.declaration.Enumeration.{Enumeration}
use Rattle.cat_value.specs.Declarations.{field_is_sound, case_is_sound, has_parts, structure_is_sound}
use Rattle.cat_value.specs.Declarations.{enumeration_is_sound}
use Rattle.cat_value.specs.Dependencies.{named_by, named_by_fields, named_by_content, named_by_cases, type_dependencies}
use Rattle.cat_image.specs.declared.tables.ImageStructure.{ImageStructure}
use Rattle.cat_image.specs.declared.tables.ImageEnumeration.{ImageEnumeration}
use Rattle.cat_image.specs.Words.{Text}
use Rattle.cat_verify_tables.specs.declared.types.TypeNames.{TypeNames}
use Rattle.cat_verify_tables.specs.inside.Entries.{AreTold}
use Rattle.cat_depend.specs.Types.{AreThere}
use Rattle.cat_verify_tables.specs.inside.PartWords.{Spells, IsFieldOf, field_names, IsStructureOf, IsContentOf}
use Rattle.cat_verify_tables.specs.inside.PartWords.{IsCaseOf, case_names, IsEnumerationOf}
use Rattle.cat_verify_tables.proofs.DeclaringLemmas.{told_each}
use Rattle.cat_depend.proofs.Listing.{listed_at}
use Rattle.cat_verify_tables.proofs.NumberLemmas.{AreNumbered, spelled_has, within_at}
use Rattle.cat_verify_tables.proofs.OrderLemmas.{names_Boolean, names_Integer, names_Decimal, names_Money, names_Date}
use Rattle.cat_verify_tables.proofs.OrderLemmas.{names_Duration, names_List, names_Structure, names_Enumeration}
use Rattle.cat_verify_tables.proofs.RoundLemmas.{listed_cut}

-- ---- lists

weaker : {A : Type 0} (p q : A → Bool) → ((x : A) → IsTrue (p x) → IsTrue (q x)) → (xs : List A)
    → IsTrue (list_all p xs) → IsTrue (list_all q xs)
weaker p q each [] all = refl
weaker p q each (x ∷ xs) all =
    let parts = and_parts (p x) (list_all p xs) all in both_true (each x parts.0) (weaker p q each xs parts.1)

all_have : {A : Type 0} (Has : A → Type 0) (xs : List A) → AllHave Has xs → All Has xs
all_have Has [] all k d within = absurd (omega (arith, within))
all_have Has (x ∷ xs) all zero d within = all.0
all_have Has (x ∷ xs) all (suc k) d within = all_have Has xs all.1 k d (omega (arith, within))

pub map_have : {A B : Type 0} (Has : B → Type 0) (f : A → B) (xs : List A) → AllHave (λ x. Has (f x)) xs
    → AllHave Has (map f xs)
map_have Has f [] all = tt
map_have Has f (x ∷ xs) all = (all.0, map_have Has f xs all.1)

-- each number that stands in a list is below a bound
abbrev AreBelow : ℕ → List ℕ → Type 0
AreBelow bound ns = (n : ℕ) → IsTrue (is_listed ns n) → n < bound

both_below : (bound : ℕ) (xs ys : List ℕ) → AreBelow bound xs → AreBelow bound ys → AreBelow bound (xs ++ ys)
both_below bound xs ys one other n listed = by (listed_cut xs ys n listed)
  where
    by : IsTrue (is_listed xs n) ⊎ IsTrue (is_listed ys n) → n < bound
    by (inl first) = one n first
    by (inr second) = other n second

none_below : (bound : ℕ) → AreBelow bound []
none_below bound n listed = absurd (true≢false (sym listed))

module _ (types : TypeNames) (S E : List Text) (are : AreNumbered types S E) (ss : List Structure)
    (es : List Enumeration) (many : length ss ≡ length S) (more : length es ≡ length E) where
  abbrev bound : ℕ
  bound = length ss + length es

  abbrev Named : Text → Ty → Type 0
  Named w t = AreBelow bound (named_by (length ss) t)

  spelled_below : (w : Text) (t : Ty) → Spells types w t → Named w t
  spelled_below = spelled_has types S E are Named
      (λ n h. absurd (true≢false (sym h ∙ names_Boolean (length ss) n)))
      (λ n h. absurd (true≢false (sym h ∙ names_Integer (length ss) n)))
      (λ n h. absurd (true≢false (sym h ∙ names_Decimal (length ss) n)))
      (λ n h. absurd (true≢false (sym h ∙ names_Money (length ss) n)))
      (λ n h. absurd (true≢false (sym h ∙ names_Date (length ss) n)))
      (λ n h. absurd (true≢false (sym h ∙ names_Duration (length ss) n)))
      (λ w k at n h.
      let less = within_at S k w at in
      let same : nat_eq k n ≡ true = sym (names_Structure (length ss) n k) ∙ h in
      let number : k ≡ n = grind (arith, nat_tests, same) in
      omega (arith, less, many, number))
      (λ w k at n h.
      let less = within_at E k w at in
      let same : nat_eq (length ss + k) n ≡ true = sym (names_Enumeration (length ss) n k) ∙ h in
      let number : length ss + k ≡ n = grind (arith, nat_tests, same) in
      omega (arith, less, more, number))
      (λ w t below n h. below n (sym (names_List (length ss) n t) ∙ h))

  fields_below : (fs : List Field) → AllHave (λ (f : Field). AreBelow bound (named_by (length ss) f.ty)) fs
      → AreBelow bound (named_by_fields (length ss) fs)
  fields_below [] all = none_below bound
  fields_below (f ∷ fs) all = both_below bound (named_by (length ss) f.ty) (named_by_fields (length ss) fs) all.0
      (fields_below fs all.1)

  structure_below : (front : List ImageStructure) (l : ImageStructure) (s : Structure) → IsStructureOf types l s
      → AreBelow bound (named_by_fields (length ss) s.fields)
  structure_below front l s told = fields_below s.fields (told_each (λ before. IsFieldOf types (field_names before))
      (λ (f : Field). AreBelow bound (named_by (length ss) f.ty)) (λ before g f is. spelled_below g.ty f.ty is.ty) []
      l.fields s.fields told.fields)

  content_below : (text : Option Text) (content : Option Ty) → IsContentOf types text content
      → AreBelow bound (named_by_content (length ss) content)
  content_below None None told = none_below bound
  content_below None (Some t) told = absurd told
  content_below (Some w) None told = absurd told
  content_below (Some w) (Some t) told = spelled_below w t told

  cases_below : (cs : List Case) → AllHave (λ (c : Case). AreBelow bound (named_by_content (length ss) c.content)) cs
      → AreBelow bound (named_by_cases (length ss) cs)
  cases_below [] all = none_below bound
  cases_below (c ∷ cs) all = both_below bound (named_by_content (length ss) c.content) (named_by_cases (length ss) cs)
      all.0 (cases_below cs all.1)

  enumeration_below : (front : List ImageEnumeration) (l : ImageEnumeration) (e : Enumeration)
      → IsEnumerationOf types l e → AreBelow bound (named_by_cases (length ss) e.cases)
  enumeration_below front l e told = cases_below e.cases (told_each (λ before. IsCaseOf types (case_names before))
      (λ (c : Case). AreBelow bound (named_by_content (length ss) c.content))
      (λ before d c is. content_below d.content c.content is.content) [] l.cases e.cases told.cases.each)

  abbrev deps : List (List ℕ)
  deps = type_dependencies ss es

  abbrev fields_named : Structure → List ℕ
  fields_named s = named_by_fields (length ss) s.fields

  abbrev cases_named : Enumeration → List ℕ
  cases_named e = named_by_cases (length ss) e.cases

  pub dependencies_many : length deps ≡ bound
  dependencies_many =
      let all = length-append (map fields_named ss) (map cases_named es) in
      let one = length-map ss fields_named in
      let other = length-map es cases_named in omega (arith, all, one, other)

  pub are_items : (lines : List ImageStructure) (others : List ImageEnumeration)
      → AreTold (λ _. IsStructureOf types) [] lines ss → AreTold (λ _. IsEnumerationOf types) [] others es
      → AreItems deps
  are_items lines others structures enumerations =
      all_have (All (λ n. n < length deps)) deps (all_append (All (λ n. n < length deps)) (map fields_named ss)
      (map cases_named es)
      (map_have (All (λ n. n < length deps)) fields_named ss
      (told_each (λ _. IsStructureOf types) (λ s. All (λ n. n < length deps) (fields_named s))
      (λ front l s told. counted (fields_named s) (structure_below front l s told)) [] lines ss structures))
      (map_have (All (λ n. n < length deps)) cases_named es
      (told_each (λ _. IsEnumerationOf types) (λ e. All (λ n. n < length deps) (cases_named e))
      (λ front l e told. counted (cases_named e) (enumeration_below front l e told)) [] others es enumerations)))
    where
      counted : (ns : List ℕ) → AreBelow bound ns → All (λ n. n < length deps) ns
      counted ns below k d within =
          let less = below (get_or ns k d) (listed_at ns k d within) in
          let all = dependencies_many in omega (arith, less, all)

  pub are_there : IsTrue (list_all (structure_is_sound ss es) ss) → IsTrue (list_all (enumeration_is_sound ss es) es)
      → bound < ENTRIES_BOUND → AreThere ss es
  are_there structures enumerations few = record {
    structures = weaker (structure_is_sound ss es) (λ s. list_all (field_is_sound ss es) s.fields)
        (λ s sound. (and_parts (has_parts s.fields) (list_all (field_is_sound ss es) s.fields) sound).1) ss structures;
    enumerations = weaker (enumeration_is_sound ss es) (λ e. list_all (case_is_sound ss es) e.cases)
        (λ e sound. (and_parts (has_parts e.cases) (list_all (case_is_sound ss es) e.cases) sound).1) es enumerations;
    few = omega (arith, few);
  }
