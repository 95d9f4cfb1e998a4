-- Lines of parts that lead back to what they are parts of are bad.
use Rattle.std.proofs.Common.{◌≡◌, ◌+◌, ℕ, List, [], ◌∷◌, ◌++◌, length, take, Option, Some, None}
use Rattle.std.proofs.Common.{slice_get}
use Rattle.std.proofs.Common.{inr, refl, sym, ap, ◌∙◌, arith, true≢false}
use Rattle.std.proofs.lemmas.List.{length-map}
use Rattle.cat_order.specs.Order.{is_listed}
use Rattle.cat_value.specs.declared.ty.Ty.{Ty}
use Rattle.cat_value.specs.declared.declaration.Structure.{Structure}
use Rattle.cat_value.specs.declared.declaration.Enumeration.{Enumeration}
use Rattle.cat_value.specs.Dependencies.{named_by_content, type_dependencies}
use Rattle.cat_image.specs.declared.tables.ImageStructure.{ImageStructure}
use Rattle.cat_image.specs.declared.tables.ImageEnumeration.{ImageEnumeration}
use Rattle.cat_image.specs.declared.tables.ImageTables.{ImageTables}
use Rattle.cat_image.specs.Words.{Text}
use Rattle.cat_depend.specs.CycleWays.{LeadsTo}
use Rattle.cat_verify_tables.specs.declared.types.TypeNames.{TypeNames}
use Rattle.cat_verify_tables.specs.WrongTables.{IsBadTable}
use Rattle.cat_verify_tables.specs.inside.Causes.{lines_in}
use Rattle.cat_verify_tables.specs.inside.Entries.{AreTold}
use Rattle.cat_verify_tables.specs.inside.NamedWords.{field_count, case_count}
use Rattle.cat_verify_tables.specs.inside.Ordering.{NamesAt, HasNamingAt, IsPartLine, ClosesAt, fields_of, cases_of}
use Rattle.cat_verify_tables.specs.inside.Ordering as part
use Rattle.cat_verify_tables.specs.inside.DeclaredWords.{structure_name, enumeration_name, structures_named}
use Rattle.cat_verify_tables.specs.inside.DeclaredWords.{enumerations_named}
use Rattle.cat_verify_tables.specs.inside.PartWords.{IsFieldOf, field_names, IsStructureOf, IsCaseOf, case_names}
use Rattle.cat_verify_tables.specs.inside.PartWords.{IsEnumerationOf}
use Rattle.cat_verify_tables.proofs.BadLemmas.{bad_at, field_bad, case_bad, typed, first, second}
use Rattle.cat_verify_tables.proofs.CloseLemmas.{closes, lines_told}
use Rattle.cat_verify_tables.proofs.DeclaringLemmas.{told_many}
use Rattle.cat_verify_tables.proofs.MadeLemmas.{named_at, told_of}
use Rattle.cat_verify_tables.proofs.NumberLemmas.{AreNumbered}
use Rattle.cat_verify_tables.proofs.RoundLemmas.{at_one, at_other, field_part, content_part}

-- as many lines for a structure, or an enumeration, as for what it is told by
pub same_fields : (types : TypeNames) (front : List ImageStructure) (l : ImageStructure) (s : Structure)
    → IsStructureOf types l s → fields_of s ≡ field_count l
same_fields types front l s told =
    told_many (λ before. IsFieldOf types (field_names before)) [] l.fields s.fields told.fields

pub same_cases : (types : TypeNames) (front : List ImageEnumeration) (l : ImageEnumeration) (e : Enumeration)
    → IsEnumerationOf types l e → cases_of e ≡ case_count l
same_cases types front l e told =
    told_many (λ before. IsCaseOf types (case_names before)) [] l.cases e.cases told.cases.each

module _ (tables : ImageTables) (types : TypeNames) (ss : List Structure) (es : List Enumeration)
    (are : AreNumbered types (structures_named tables) (enumerations_named tables))
    (structures_told : AreTold (λ _. IsStructureOf types) [] tables.structures ss)
    (enumerations_told : AreTold (λ _. IsEnumerationOf types) [] tables.enumerations es) where
  structures_many : length ss ≡ length tables.structures
  structures_many = told_many (λ _. IsStructureOf types) [] tables.structures ss structures_told

  abbrev S : List Text
  S = structures_named tables

  abbrev E : List Text
  E = enumerations_named tables

  structure_lines : (k : ℕ) → lines_in fields_of (take k ss) ≡ lines_in field_count (take k tables.structures)
  structure_lines k = lines_told (λ _. IsStructureOf types) field_count fields_of (same_fields types) []
      tables.structures ss k structures_told

  enumeration_lines : (k : ℕ) → lines_in cases_of (take k es) ≡ lines_in case_count (take k tables.enumerations)
  enumeration_lines k = lines_told (λ _. IsEnumerationOf types) case_count cases_of (same_cases types) []
      tables.enumerations es k enumerations_told

  field_round : (number b line : ℕ) (s : Structure) (index : ℕ) → slice_get ss number ≡ Some s
      → NamesAt (length ss) s.fields b index → LeadsTo (type_dependencies ss es) b number
      → line ≡ first tables + lines_in fields_of (take number ss) + 1 + index → IsBadTable tables line
  field_round number b line s index at names back line_is =
      let l = told_of (λ _. IsStructureOf types) [] tables.structures ss number s structures_told at in
      let g = field_part tables types ss es are structures_told enumerations_told number b l.0 s index names.field l.1
      at names.at names.names in
      let own = at_one S E number l.0.name (named_at structure_name tables.structures number l.0 l.1) in
      let round = closes tables types ss es are structures_told enumerations_told number b l.0.name g.0.ty own g.2
      back in
      let lines = structure_lines number in
      bad_at tables (first tables + lines_in field_count (take number tables.structures) + 1 + index) line
      (omega (arith, line_is, lines))
      (field_bad tables number l.0 index g.0 l.1 g.1 (inr (inr round)))

  content_round : (n number b line : ℕ) (e : Enumeration) (index : ℕ) → number ≡ length ss + n
      → slice_get es n ≡ Some e → (names : HasNamingAt (length ss) e.cases b index)
      → LeadsTo (type_dependencies ss es) b number
      → line ≡ first tables + lines_in fields_of ss + lines_in cases_of (take n es) + 1 + index
      → (content : Option Ty) → names.case.content ≡ content → IsBadTable tables line
  content_round n number b line e index is at names back line_is None content =
      absurd (true≢false (sym names.names ∙ ap (λ (c : Option Ty). is_listed (named_by_content (length ss) c) b)
      content))
  content_round n number b line e index is at names back line_is (Some t) content =
      let l = told_of (λ _. IsEnumerationOf types) [] tables.enumerations es n e enumerations_told at in
      let listed = sym (ap (λ (c : Option Ty). is_listed (named_by_content (length ss) c) b) content) ∙ names.names in
      let d = content_part tables types ss es are structures_told enumerations_told n b l.0 e index names.case t l.1 at
      names.at content listed in
      let many = structures_many in
      let named = length-map tables.structures structure_name in
      let own = at_other S E n number l.0.name (omega (arith, is, many, named))
      (named_at enumeration_name tables.enumerations n l.0 l.1) in
      let round = closes tables types ss es are structures_told enumerations_told number b l.0.name d.1 own d.4 back in
      let all = all_lines in
      let lines = enumeration_lines n in
      bad_at tables (second tables + lines_in case_count (take n tables.enumerations) + 1 + index) line
      (omega (arith, line_is, lines, all))
      (case_bad tables n l.0 index d.0 l.1 d.2 (typed d.1 d.3 (inr round)))
    where
      all_told : {A B : Type 0} (Told : List A → A → B → Type 0) (parts : A → ℕ) (counts : B → ℕ)
          → ((front : List A) (x : A) (y : B) → Told front x y → counts y ≡ parts x) → (front xs : List A)
          (ys : List B)
          → AreTold Told front xs ys → lines_in counts ys ≡ lines_in parts xs
      all_told Told parts counts same front [] [] told = refl
      all_told Told parts counts same front [] (y ∷ ys) told = absurd told
      all_told Told parts counts same front (x ∷ xs) [] told = absurd told
      all_told Told parts counts same front (x ∷ xs) (y ∷ ys) told =
          let one = same front x y told.0 in
          let more = all_told Told parts counts same (front ++ x ∷ []) xs ys told.1 in omega (arith, one, more)

      all_lines : lines_in fields_of ss ≡ lines_in field_count tables.structures
      all_lines = all_told (λ _. IsStructureOf types) field_count fields_of (same_fields types) [] tables.structures ss
          structures_told

  pub round_bad : (line : ℕ) → ClosesAt ss es (first tables) line → IsBadTable tables line
  round_bad line closed = by closed.at
    where
      by : IsPartLine ss es (first tables) closed.number closed.part line → IsBadTable tables line
      by (part.field s index at names line_is) =
          field_round closed.number closed.part line s index at names closed.round.1 line_is
      by (part.content n e index is at names line_is) = content_round n closed.number closed.part line e index is at
          names closed.round.1 line_is names.case.content refl
