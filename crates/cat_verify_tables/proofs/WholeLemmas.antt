-- What all lines of declarations tell is sound, and what is too high has a bad line.
use Rattle.std.proofs.Common.{◌≡◌, ◌<◌, ℕ, IsTrue, List, [], length, Option, Some, None}
use Rattle.std.proofs.Common.{sym, ◌∙◌, subst, arith}
use Rattle.std.specs.List.{list_all}
use Rattle.std.proofs.lemmas.Bool.Decides.{nat_tests}
use Rattle.std.proofs.lemmas.List.{length-map}
use Rattle.cat_order.specs.Order.{AreItems, IsOrder}
use Rattle.cat_scope.specs.Names.{AllHave}
use Rattle.cat_value.specs.declared.ty.Ty.{Ty}
use Rattle.cat_value.specs.declared.declaration.Field.{Field}
use Rattle.cat_value.specs.declared.declaration.Structure.{Structure}
use Rattle.cat_value.specs.declared.declaration.Case.{Case}
use Rattle.cat_value.specs.declared.declaration.Enumeration.{Enumeration}
use Rattle.cat_value.specs.declared.declaration.Scope.{Scope}
use Rattle.cat_value.specs.declared.table.TypeHeights.{TypeHeights}
use Rattle.cat_value.specs.Declarations.{highest, is_counted, structure_is_sound, enumeration_is_sound, are_sound}
use Rattle.cat_value.specs.Declarations.{scope_is_sound}
use Rattle.cat_value.specs.Dependencies.{type_dependencies}
use Rattle.cat_value.specs.Heights.{height_to}
use Rattle.cat_image.specs.declared.tables.ImageTables.{ImageTables}
use Rattle.cat_image.specs.Words.{Text}
use Rattle.cat_verify_tables.specs.declared.declared.Declaring.{Declaring}
use Rattle.cat_verify_tables.specs.declared.declared.Headers.{Headers}
use Rattle.cat_verify_tables.specs.declared.heights.Measures.{Measures}
use Rattle.cat_verify_tables.specs.WrongTables.{IsBadTable}
use Rattle.cat_verify_tables.specs.inside.Causes.{IsFaultyIn}
use Rattle.cat_verify_tables.specs.inside.Entries.{AreTold}
use Rattle.cat_verify_tables.specs.inside.HighWords.{IsLowContent, IsLowItem, HasHighField}
use Rattle.cat_verify_tables.specs.inside.HighWords.{HasHighCase, HasHighItem}
use Rattle.cat_verify_tables.specs.inside.LowWords.{AreLow, AreMeasuresOf, HasHighPart}
use Rattle.cat_verify_tables.specs.inside.LowWords as high
use Rattle.cat_depend.specs.Types.{AreThere}
use Rattle.cat_verify_tables.specs.inside.Ordering.{fields_of, cases_of, items_of}
use Rattle.cat_verify_tables.specs.inside.PartWords.{IsStructureOf, IsEnumerationOf}
use Rattle.cat_verify_tables.specs.inside.ItemWords.{IsScopeOf}
use Rattle.cat_verify_tables.specs.inside.DeclarationWords.{HasFewRows}
use Rattle.cat_verify_tables.specs.inside.DeclaredWords.{AreHeadersOf, ArePartsOf, structure_name, enumeration_name}
use Rattle.cat_verify_tables.specs.inside.DeclaredWords.{structures_named, enumerations_named}
use Rattle.cat_verify_tables.proofs.BadLemmas.{first}
use Rattle.cat_verify_tables.proofs.DeclaringLemmas.{enumerations_sound, structures_sound, told_many}
use Rattle.cat_verify_tables.proofs.FewLemmas.{cases_few, fields_few, items_few, scopes_few, types_few}
use Rattle.cat_verify_tables.proofs.HeaderLemmas.{are_plain, knows, numbers_are}
use Rattle.cat_verify_tables.proofs.HighFaults.{high_case_bad, high_field_bad}
use Rattle.cat_verify_tables.proofs.HighItems.{high_item_bad}
use Rattle.cat_verify_tables.proofs.ItemLemmas.{scopes_sound}
use Rattle.cat_verify_tables.proofs.ItemLemmas as items
use Rattle.cat_verify_tables.proofs.RightScopes.{HasLowTypes}
use Rattle.cat_verify_tables.proofs.SoundLemmas.{all_low, each_has, ordered_test, sound_by}
use Rattle.cat_verify_tables.proofs.SoundLemmas as low
use Rattle.cat_verify_tables.proofs.ThereLemmas.{are_items, are_there}

module _ (tables : ImageTables) (few : HasFewRows tables) (headers : Headers)
    (are : AreHeadersOf tables (first tables) headers) (parts : Declaring) (told : ArePartsOf tables headers parts)
  where
    abbrev ss : List Structure
    ss = parts.structures

    abbrev es : List Enumeration
    es = parts.enumerations

    abbrev S : List Text
    S = structures_named tables

    abbrev E : List Text
    E = enumerations_named tables

    structures_many : length ss ≡ length tables.structures
    structures_many = told_many (λ _. IsStructureOf headers.known.types) [] tables.structures ss told.structures

    enumerations_many : length es ≡ length tables.enumerations
    enumerations_many =
        told_many (λ _. IsEnumerationOf headers.known.types) [] tables.enumerations es told.enumerations

    scopes_many : length parts.scopes ≡ length tables.scopes
    scopes_many = told_many (λ _. IsScopeOf headers.known) [] tables.scopes parts.scopes told.scopes

    many : length ss ≡ length S
    many = structures_many ∙ sym (length-map tables.structures structure_name)

    more : length es ≡ length E
    more = enumerations_many ∙ sym (length-map tables.enumerations enumeration_name)

    structures_test : IsTrue (list_all (structure_is_sound ss es) ss)
    structures_test = structures_sound headers.known.types S E (numbers_are tables headers are) ss es many more
        tables.structures (fields_few tables few) told.structures

    enumerations_test : IsTrue (list_all (enumeration_is_sound ss es) es)
    enumerations_test = enumerations_sound headers.known.types S E (numbers_are tables headers are) ss es many more
        tables.enumerations (cases_few tables few) told.enumerations

    pub there : AreThere ss es
    there = are_there headers.known.types S E (numbers_are tables headers are) ss es many more structures_test
        enumerations_test
        (let count = types_few tables few in let one = structures_many in let other = enumerations_many in
        omega (arith, count, one, other))

    pub all_items : AreItems (type_dependencies ss es)
    all_items = are_items headers.known.types S E (numbers_are tables headers are) ss es many more tables.structures
        tables.enumerations told.structures told.enumerations

    -- ---- low types

    module _ (heights : TypeHeights) (lows : AreLow parts heights) where
      abbrev m : Measures
      m = lows.measures

      abbrev LowFields : List Structure → List Enumeration → Structure → Type 0
      LowFields xs ys s = AllHave (λ (f : Field). height_to xs ys highest f.ty < highest) s.fields

      pub low_structures : AllHave (LowFields ss es) ss
      low_structures =
          subst (λ (xs : List Structure). AllHave (LowFields xs es) ss) lows.are.structures
          (subst (λ (ys : List Enumeration). AllHave (LowFields m.structures.now ys) ss) lows.are.enumerations
          lows.structures)

      abbrev LowCases : List Structure → List Enumeration → Enumeration → Type 0
      LowCases xs ys e = AllHave (λ (c : Case). low.IsLow xs ys c.content) e.cases

      low_content : (content : Option Ty) → IsLowContent m content
          → low.IsLow m.structures.now m.enumerations.now content
      low_content None is = tt
      low_content (Some t) is = is

      pub low_enumerations : AllHave (LowCases ss es) es
      low_enumerations =
          subst (λ (xs : List Structure). AllHave (LowCases xs es) es) lows.are.structures
          (subst (λ (ys : List Enumeration). AllHave (LowCases m.structures.now ys) es) lows.are.enumerations
          (each_has (λ (e : Enumeration). AllHave (λ (c : Case). IsLowContent m c.content) e.cases)
          (LowCases m.structures.now m.enumerations.now)
          (λ e all. each_has (λ (c : Case). IsLowContent m c.content)
          (λ (c : Case). low.IsLow m.structures.now m.enumerations.now c.content) (λ c is. low_content c.content is)
          e.cases all) es lows.enumerations))

      pub low_scopes : AllHave (λ (s : Scope). AllHave (HasLowTypes ss es) s.items) parts.scopes
      low_scopes =
          subst (λ (xs : List Structure). AllHave (λ (s : Scope). AllHave (HasLowTypes xs es) s.items) parts.scopes)
          lows.are.structures
          (subst (λ (ys : List Enumeration). AllHave (λ (s : Scope). AllHave (HasLowTypes m.structures.now ys) s.items)
          parts.scopes) lows.are.enumerations
          (each_has (λ (s : Scope). AllHave (IsLowItem m) s.items)
          (λ (s : Scope). AllHave (HasLowTypes m.structures.now m.enumerations.now) s.items)
          (λ s all. each_has (IsLowItem m) (HasLowTypes m.structures.now m.enumerations.now)
          (λ item is. record { ty = is.ty; params = is.params }) s.items all) parts.scopes lows.scopes))

      scopes_test : IsTrue (list_all (scope_is_sound ss es (length parts.scopes)) parts.scopes)
      scopes_test = scopes_sound headers.known S E tables.scopes ss es parts.scopes (numbers_are tables headers are)
          many more are.scope_numbers told.scopes (items_few tables few)
          (each_has (λ (s : Scope). AllHave (HasLowTypes ss es) s.items)
          (λ (s : Scope). AllHave (λ item. items.IsLow headers.known S E tables.scopes ss es parts.scopes
          (numbers_are tables headers are) many more are.scope_numbers told.scopes item) s.items)
          (λ s all. each_has (HasLowTypes ss es)
          (λ item. items.IsLow headers.known S E tables.scopes ss es parts.scopes (numbers_are tables headers are) many
          more are.scope_numbers told.scopes item) (λ item is. record { ty = is.ty; params = is.params }) s.items all)
          parts.scopes low_scopes)

      pub sound : (order : List ℕ) → IsOrder (type_dependencies ss es) order → IsTrue (are_sound ss es parts.scopes)
      sound order is =
          let count = types_few tables few in
          let one = structures_many in
          let other = enumerations_many in
          let scopes = scopes_few tables few in
          let own = scopes_many in
          let a : IsTrue (is_counted ss) = grind (arith, nat_tests, count, one) in
          let b : IsTrue (is_counted es) = grind (arith, nat_tests, count, other) in
          let d : IsTrue (is_counted parts.scopes) = grind (arith, nat_tests, scopes, own) in
          sound_by ss es parts.scopes a b d structures_test enumerations_test scopes_test (ordered_test ss es order is)
          (all_low ss es low_structures low_enumerations)

    -- ---- types that are too high

    module _ (m : Measures) (measured : AreMeasuresOf parts m) where
      structures_told : AreTold (λ _. IsStructureOf headers.known.types) [] tables.structures m.structures.now
      structures_told = subst (λ (xs : List Structure). AreTold (λ _. IsStructureOf headers.known.types) []
          tables.structures xs) (sym measured.structures) told.structures

      enumerations_told : AreTold (λ _. IsEnumerationOf headers.known.types) [] tables.enumerations m.enumerations.now
      enumerations_told = subst (λ (ys : List Enumeration). AreTold (λ _. IsEnumerationOf headers.known.types) []
          tables.enumerations ys) (sym measured.enumerations) told.enumerations

      high_structure : (line : ℕ) → IsFaultyIn fields_of (λ _. HasHighField m) (first tables) ss line
          → IsBadTable tables line
      high_structure line faulty = high_field_bad tables headers.known.types m (numbers_are tables headers are)
          structures_told enumerations_told line
          (subst (λ (xs : List Structure). IsFaultyIn fields_of (λ _. HasHighField m) (first tables) xs line)
          (sym measured.structures) faulty)

      high_enumeration : (line : ℕ) → IsFaultyIn cases_of (λ _. HasHighCase m) headers.enumerations es line
          → IsBadTable tables line
      high_enumeration line faulty = high_case_bad tables headers.known.types m (numbers_are tables headers are)
          structures_told enumerations_told line
          (subst (λ (k : ℕ). IsFaultyIn cases_of (λ _. HasHighCase m) k m.enumerations.now line) are.enumerations_at
          (subst (λ (ys : List Enumeration). IsFaultyIn cases_of (λ _. HasHighCase m) headers.enumerations ys line)
          (sym measured.enumerations) faulty))

      high_scope : (line : ℕ) → IsFaultyIn items_of (λ _. HasHighItem m) headers.scopes parts.scopes line
          → IsBadTable tables line
      high_scope line faulty = high_item_bad tables headers.known m (numbers_are tables headers are) structures_told
          enumerations_told (knows tables headers are) (are_plain tables headers are) parts.scopes told.scopes line
          (subst (λ (k : ℕ). IsFaultyIn items_of (λ _. HasHighItem m) k parts.scopes line) are.scopes_at faulty)

    pub high_bad : (line : ℕ) → HasHighPart parts headers (first tables) line → IsBadTable tables line
    high_bad line (high.structure m measured faulty) = high_structure m measured line faulty
    high_bad line (high.enumeration m measured faulty) = high_enumeration m measured line faulty
    high_bad line (high.scope m measured faulty) = high_scope m measured line faulty
