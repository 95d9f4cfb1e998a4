-- Parts that are too high make lines bad.
use Rattle.std.proofs.Common.{◌≡◌, ◌+◌, ℕ, List, [], take, Option, Some, None}
use Rattle.std.proofs.Common.{inl, inr, refl, arith}
use Rattle.cat_value.specs.declared.ty.Ty.{Ty}
use Rattle.cat_value.specs.Declarations.{highest}
use Rattle.cat_image.specs.declared.tables.ImageCase.{ImageCase}
use Rattle.cat_image.specs.declared.tables.ImageTables.{ImageTables}
use Rattle.cat_image.specs.Words.{Text}
use Rattle.cat_verify_tables.specs.declared.heights.Measures.{Measures}
use Rattle.cat_verify_tables.specs.declared.types.TypeNames.{TypeNames}
use Rattle.cat_verify_tables.specs.TypeWords.{IsHigher}
use Rattle.cat_verify_tables.specs.WrongTables.{IsBadTable}
use Rattle.cat_verify_tables.specs.inside.Causes.{IsFaultyIn, lines_in}
use Rattle.cat_verify_tables.specs.inside.Entries.{AreTold}
use Rattle.cat_verify_tables.specs.inside.NamedWords.{field_count, case_count}
use Rattle.cat_verify_tables.specs.inside.Ordering.{fields_of, cases_of}
use Rattle.cat_verify_tables.specs.inside.HighWords.{HasHighField, HasHighCase, IsHighPart, IsHighContent}
use Rattle.cat_verify_tables.specs.inside.DeclaredWords.{structures_named, enumerations_named}
use Rattle.cat_verify_tables.specs.inside.PartWords.{Spells, IsFieldOf, field_names, IsStructureOf, IsContentOf}
use Rattle.cat_verify_tables.specs.inside.PartWords.{IsCaseOf, case_names, IsEnumerationOf}
use Rattle.cat_verify_tables.proofs.BadLemmas.{bad_at, field_bad, case_bad, IsBadCase, typed, first, second}
use Rattle.cat_verify_tables.proofs.CloseLemmas.{lines_told}
use Rattle.cat_verify_tables.proofs.RoundFaults.{same_fields, same_cases}
use Rattle.cat_verify_tables.proofs.MadeLemmas.{higher_of, named_of_spelled, told_of}
use Rattle.cat_verify_tables.proofs.NumberLemmas.{AreNumbered}

module _ (tables : ImageTables) (types : TypeNames) (m : Measures)
    (are : AreNumbered types (structures_named tables) (enumerations_named tables))
    (structures_told : AreTold (λ _. IsStructureOf types) [] tables.structures m.structures.now)
    (enumerations_told : AreTold (λ _. IsEnumerationOf types) [] tables.enumerations m.enumerations.now) where
  -- what passes the greatest height of a part is higher by its words
  high_part : (w : Text) (t : Ty) → Spells types w t → IsHighPart m t → IsHigher tables 63 w
  high_part w t spells high =
      higher_of tables types m.structures.now m.enumerations.now are structures_told enumerations_told 63 highest w t
      (named_of_spelled types (structures_named tables) (enumerations_named tables) are w t spells)
      (omega (arith, high))

  pub high_field_bad : (line : ℕ)
      → IsFaultyIn fields_of (λ _. HasHighField m) (first tables) m.structures.now line → IsBadTable tables line
  high_field_bad line faulty =
      let k = faulty.index in
      let s = faulty.entry in
      let l = told_of (λ _. IsStructureOf types) [] tables.structures m.structures.now k s structures_told faulty.at in
      let field = faulty.fault in
      let g = told_of (λ before. IsFieldOf types (field_names before)) [] l.0.fields s.fields field.index field.entry
      l.3.fields field.at in
      let lines = lines_told (λ _. IsStructureOf types) field_count fields_of (same_fields types) [] tables.structures
      m.structures.now k structures_told in
      bad_at tables (first tables + lines_in field_count (take k tables.structures) + 1 + field.index) line
      (omega (arith, field.line_is, lines))
      (field_bad tables k l.0 field.index g.0 l.1 g.1
      (inr (inl (inr (high_part g.0.ty field.entry.ty g.3.ty field.fault)))))

  content_high : (name : Text) (before : List ImageCase) (d : ImageCase) (text : Option Text) (content : Option Ty)
      → d.content ≡ text → IsContentOf types text content → IsHighContent m content → IsBadCase tables name before d
  content_high name before d None None is told high = absurd high
  content_high name before d None (Some t) is told high = absurd told
  content_high name before d (Some w) None is told high = absurd told
  content_high name before d (Some w) (Some t) is told high = typed w is (inl (inr (high_part w t told high)))

  pub high_case_bad : (line : ℕ)
      → IsFaultyIn cases_of (λ _. HasHighCase m) (second tables) m.enumerations.now line → IsBadTable tables line
  high_case_bad line faulty =
      let k = faulty.index in
      let e = faulty.entry in
      let l = told_of (λ _. IsEnumerationOf types) [] tables.enumerations m.enumerations.now k e enumerations_told
      faulty.at in
      let case = faulty.fault in
      let d = told_of (λ before. IsCaseOf types (case_names before)) [] l.0.cases e.cases case.index case.entry
      l.3.cases.each case.at in
      let lines = lines_told (λ _. IsEnumerationOf types) case_count cases_of (same_cases types) [] tables.enumerations
      m.enumerations.now k enumerations_told in
      bad_at tables (second tables + lines_in case_count (take k tables.enumerations) + 1 + case.index) line
      (omega (arith, case.line_is, lines))
      (case_bad tables k l.0 case.index d.0 l.1 d.1
      (content_high l.0.name (take case.index l.0.cases) d.0 d.0.content case.entry.content refl d.3.content
      case.fault))
