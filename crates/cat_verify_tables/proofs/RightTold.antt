-- Structures and enumerations that were told are right.
use Rattle.std.proofs.Common.{◌≡◌, ◌<◌, ◌≤◌, ℕ, List, [], ◌∷◌, ◌++◌, length, map, Option, Some, None, inl}
use Rattle.std.proofs.Common.{inr}
use Rattle.std.proofs.Common.{refl, ap, ◌∙◌, subst, arith, length-append}
use Rattle.cat_order.specs.Cycle.{IsOnCycle}
use Rattle.cat_scope.specs.Names.{AllHave}
use Rattle.cat_value.specs.declared.ty.Ty.{Ty}
use Rattle.cat_value.specs.declared.declaration.Field.{Field}
use Rattle.cat_value.specs.declared.declaration.Structure.{Structure}
use Rattle.cat_value.specs.declared.declaration.Case.{Case}
use Rattle.cat_value.specs.declared.declaration.Enumeration.{Enumeration}
use Rattle.cat_value.specs.Declarations.{highest, most_cases}
use Rattle.cat_value.specs.Dependencies.{type_dependencies}
use Rattle.cat_value.specs.Heights.{height_to}
use Rattle.cat_image.specs.declared.tables.ImageField.{ImageField}
use Rattle.cat_image.specs.declared.tables.ImageStructure.{ImageStructure}
use Rattle.cat_image.specs.declared.tables.ImageCase.{ImageCase}
use Rattle.cat_image.specs.declared.tables.ImageEnumeration.{ImageEnumeration}
use Rattle.cat_image.specs.declared.tables.ImageTables.{ImageTables}
use Rattle.cat_image.specs.Words.{Text}
use Rattle.cat_verify_tables.specs.declared.types.TypeNames.{TypeNames}
use Rattle.cat_verify_tables.specs.TypeWords as words
use Rattle.cat_verify_tables.specs.WrongParts.{IsWrongPart, IsWrongType}
use Rattle.cat_verify_tables.specs.inside.Entries.{AreRight, AreTold}
use Rattle.cat_verify_tables.specs.inside.NamedWords.{IsWrongHeader}
use Rattle.cat_verify_tables.specs.inside.DeclaredWords.{structure_name, enumeration_name, structures_named}
use Rattle.cat_verify_tables.specs.inside.DeclaredWords.{enumerations_named}
use Rattle.cat_verify_tables.specs.inside.PartWords.{Spells, IsFieldOf, field_names, IsStructureOf, IsContentOf}
use Rattle.cat_verify_tables.specs.inside.PartWords.{IsCaseOf, case_names, IsEnumerationOf}
use Rattle.cat_verify_tables.proofs.KnownLemmas.{Knows, spelled_known}
use Rattle.cat_verify_tables.proofs.MadeLemmas.{Apart, high_of, named_of_spelled}
use Rattle.cat_verify_tables.proofs.NoRounds.{no_round}
use Rattle.cat_verify_tables.proofs.NumberLemmas.{AreNumbered}
use Rattle.cat_verify_tables.proofs.RightLemmas.{IsRightStructure, NoContent}
use Rattle.cat_verify_tables.proofs.RightRows.{IsRightEnumeration, one_in}
use Rattle.cat_verify_tables.proofs.RowLemmas.{right_at, told_at}
use Rattle.cat_verify_tables.proofs.SoundLemmas.{have_at, IsLow}

module _ (tables : ImageTables) (types : TypeNames) (ss : List Structure) (es : List Enumeration)
    (are : AreNumbered types (structures_named tables) (enumerations_named tables))
    (structures_told : AreTold (λ _. IsStructureOf types) [] tables.structures ss)
    (enumerations_told : AreTold (λ _. IsEnumerationOf types) [] tables.enumerations es) (apart : Apart tables)
    (knows : Knows tables types) (acyclic : (n : ℕ) → IsOnCycle (type_dependencies ss es) n → ⊥) where
  -- a type that is spelled, and not too high, isn't wrong
  pub not_wrong : (k : ℕ) (w : Text) (t : Ty) → Spells types w t → k ≤ highest → height_to ss es highest t ≤ k
      → IsWrongType tables k w → ⊥
  not_wrong k w t spells less low (inl unknown) = unknown (spelled_known tables types knows w t spells)
  not_wrong k w t spells less low (inr high) =
      let above = high_of tables types ss es are structures_told enumerations_told apart k highest w high t
      (named_of_spelled types (structures_named tables) (enumerations_named tables) are w t spells) less in
      omega (arith, above, low)

  part_right : (name w : Text) (t : Ty) → Spells types w t → height_to ss es highest t < highest
      → words.HasPart tables name w → IsWrongPart tables name w → ⊥
  part_right name w t spells low has (inl wrong) = not_wrong 63 w t spells (omega arith) (omega (arith, low)) wrong
  part_right name w t spells low has (inr closes) =
      no_round tables types ss es are structures_told enumerations_told apart acyclic name w has closes

  pub structure_right : AreRight (IsWrongHeader structure_name []) [] tables.structures
      → AllHave (λ (s : Structure). AllHave (λ (f : Field). height_to ss es highest f.ty < highest) s.fields) ss
      → (before : List ImageStructure) (s : ImageStructure) (after : List ImageStructure)
      → tables.structures ≡ before ++ s ∷ after
      → IsRightStructure tables (map (λ (r : ImageStructure). r.name) before) s
  structure_right right low before s after is =
      let it = told_at (λ _. IsStructureOf types) before s after ss
      (subst (λ (lines : List ImageStructure). AreTold (λ _. IsStructureOf types) [] lines ss) is structures_told) in
      record {
        name = right_at (IsWrongHeader structure_name []) [] before s after
            (subst (AreRight (IsWrongHeader structure_name []) []) is right);
        some = it.told.some;
        fields = λ front f behind own.
            let field = told_at (λ others. IsFieldOf types (field_names others)) front f behind it.entry.fields
            (subst (λ (lines : List ImageField). AreTold (λ others. IsFieldOf types (field_names others)) [] lines
            it.entry.fields) own it.told.fields) in (
              field.told.right,
              part_right s.name f.ty field.entry.ty field.told.ty
                  (have_at _ it.entry.fields (length front) field.entry field.at
                  (have_at _ ss (length before) it.entry it.at low))
                  (words.field s f (one_in before s after tables.structures is) (one_in front f behind s.fields own)),
            );
      }

  content_right : (name : Text) (text : Option Text) (content : Option Ty) → IsContentOf types text content
      → IsLow ss es content → ((w : Text) → text ≡ Some w → words.HasPart tables name w) → NoContent tables name text
  content_right name None content told low has = tt
  content_right name (Some w) None told low has = absurd told
  content_right name (Some w) (Some t) told low has = part_right name w t told low (has w refl)

  pub enumeration_right : AreRight (IsWrongHeader enumeration_name (structures_named tables)) [] tables.enumerations
      → AllHave (λ (e : Enumeration). AllHave (λ (c : Case). IsLow ss es c.content) e.cases) es
      → (before : List ImageEnumeration) (e : ImageEnumeration) (after : List ImageEnumeration)
      → tables.enumerations ≡ before ++ e ∷ after
      → IsRightEnumeration tables (structures_named tables ++ map enumeration_name before) e
  enumeration_right right low before e after is =
      let it = told_at (λ _. IsEnumerationOf types) before e after es
      (subst (λ (lines : List ImageEnumeration). AreTold (λ _. IsEnumerationOf types) [] lines es) is
      enumerations_told) in
      record {
        name = right_at (IsWrongHeader enumeration_name (structures_named tables)) [] before e after
            (subst (AreRight (IsWrongHeader enumeration_name (structures_named tables)) []) is right);
        some = it.told.some;
        cases = λ front c behind own.
            let case = told_at (λ others. IsCaseOf types (case_names others)) front c behind it.entry.cases
            (subst (λ (lines : List ImageCase). AreTold (λ others. IsCaseOf types (case_names others)) [] lines
            it.entry.cases) own it.told.cases.each) in
            record {
              right = case.told.right;
              content = content_right e.name c.content case.entry.content case.told.content
                  (have_at _ it.entry.cases (length front) case.entry case.at
                  (have_at _ es (length before) it.entry it.at low))
                  (λ w content. words.content e c w (one_in before e after tables.enumerations is)
                  (one_in front c behind e.cases own) content);
              few = few_cases front c behind own it.told.cases.few;
            };
      }
    where
      few_cases : (front : List ImageCase) (c : ImageCase) (behind : List ImageCase) → e.cases ≡ front ++ c ∷ behind
          → length e.cases ≤ most_cases → most_cases ≤ length front → ⊥
      few_cases front c behind own few many =
          let count = ap length own ∙ length-append front (c ∷ behind) in omega (arith, count, few, many)
