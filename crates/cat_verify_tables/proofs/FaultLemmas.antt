-- Wrong structures and enumerations make lines bad.
use Rattle.std.proofs.Common.{◌≡◌, ◌+◌, ◌⊎◌, ℕ, suc, false, List, [], ◌∷◌, ◌++◌, take, drop, map}
use Rattle.std.proofs.Common.{Option, Some, None, slice_get, inl, inr, refl, sym}
use Rattle.std.specs.Prelude.{flat_map}
use Rattle.cat_value.specs.Declarations.{highest}
use Rattle.cat_image.specs.declared.row.Row.TheVariants as row
use Rattle.cat_image.specs.declared.tables.ImageStructure.{ImageStructure}
use Rattle.cat_image.specs.declared.tables.ImageCase.{ImageCase}
use Rattle.cat_image.specs.declared.tables.ImageEnumeration.{ImageEnumeration}
use Rattle.cat_image.specs.declared.tables.ImageScope.{ImageScope}
use Rattle.cat_image.specs.declared.tables.ImagePos.{ImagePos}
use Rattle.cat_image.specs.declared.tables.ImageTarget.{ImageTarget}
use Rattle.cat_image.specs.declared.tables.ImageConstant.{ImageConstant}
use Rattle.cat_image.specs.declared.tables.ImageTables.{ImageTables}
use Rattle.cat_image.specs.Words.{Text}
use Rattle.cat_image.specs.Rows.{structure_rows, enumeration_rows, scope_rows}
use Rattle.cat_verify_tables.specs.declared.types.TypeNames.{TypeNames}
use Rattle.cat_verify_tables.specs.RowFronts.{begins_with_part}
use Rattle.cat_verify_tables.specs.WrongParts.{IsWrongPart, IsWrongType}
use Rattle.cat_verify_tables.specs.WrongTables.{IsBadTable}
use Rattle.cat_verify_tables.specs.inside.Causes.{IsFaultyIn, lines_in}
use Rattle.cat_verify_tables.specs.inside.NamedWords.{field_count, case_count}
use Rattle.cat_verify_tables.specs.inside.PartWords.{IsWrongStructure, IsWrongEnumeration}
use Rattle.cat_verify_tables.specs.inside.PartWords.{SpellsNone, IsWrongContent, IsWrongOrLate}
use Rattle.cat_verify_tables.proofs.BadLemmas.{bad_at, no_fields_bad, field_bad, no_cases_bad, case_bad, IsBadCase}
use Rattle.cat_verify_tables.proofs.BadLemmas.{named, typed, late, first, second, tail}
use Rattle.cat_verify_tables.proofs.KnownLemmas.{Knows, higher_less, spelled_none}

-- ---- what begins with a part

module _ (tables : ImageTables) where
  tail_begins : begins_with_part (tail tables) ≡ false
  tail_begins = by tables.targets tables.definitions tables.functions tables.positions tables.constants
    where
      by : (ts : List ImageTarget) (ds : List ImagePos) (fs : List ℕ) (ps : List ImagePos) (cs : List ImageConstant)
          → begins_with_part (map row.Target ts ++ (map row.Definition ds ++ (map row.Function fs
          ++ (map row.Position ps ++ (map row.Constant cs ++ []))))) ≡ false
      by (t ∷ ts) ds fs ps cs = refl
      by [] (d ∷ ds) fs ps cs = refl
      by [] [] (f ∷ fs) ps cs = refl
      by [] [] [] (p ∷ ps) cs = refl
      by [] [] [] [] (c ∷ cs) = refl
      by [] [] [] [] [] = refl

  scopes_begin : (ss : List ImageScope) → begins_with_part (flat_map scope_rows ss ++ tail tables) ≡ false
  scopes_begin [] = tail_begins
  scopes_begin (s ∷ ss) = refl

  enumerations_begin : (es : List ImageEnumeration)
      → begins_with_part (flat_map enumeration_rows es ++ (flat_map scope_rows tables.scopes ++ tail tables)) ≡ false
  enumerations_begin [] = scopes_begin tables.scopes
  enumerations_begin (e ∷ es) = refl

  structures_begin : (ss : List ImageStructure) → begins_with_part (flat_map structure_rows ss
      ++ (flat_map enumeration_rows tables.enumerations ++ (flat_map scope_rows tables.scopes ++ tail tables))) ≡ false
  structures_begin [] = enumerations_begin tables.enumerations
  structures_begin (s ∷ ss) = refl

  -- ---- wrong structures and enumerations

  module _ (types : TypeNames) (knows : Knows tables types) where
    -- no type at all is none of a part
    part_none : (ty : Text) → IsWrongType tables highest ty → IsWrongType tables 63 ty
    part_none ty (inl unknown) = inl unknown
    part_none ty (inr high) = inr (higher_less tables 63 ty high)

    part_fault : {P : Type 0} (name ty : Text) → P ⊎ SpellsNone types ty → P ⊎ IsWrongPart tables name ty
    part_fault name ty (inl other) = inl other
    part_fault name ty (inr none) = inr (inl (part_none ty (spelled_none tables types knows ty none)))

    structure_wrong : (k : ℕ) (s : ImageStructure) (line : ℕ) → slice_get tables.structures k ≡ Some s
        → IsWrongStructure types s (first tables + lines_in field_count (take k tables.structures)) line
        → IsBadTable tables line
    structure_wrong k s line at (inl none) =
        bad_at tables (first tables + lines_in field_count (take k tables.structures)) line (sym none.0)
        (no_fields_bad tables k s at none.1 (structures_begin (drop (suc k) tables.structures)))
    structure_wrong k s line at (inr wrong) = bad_at tables
        (first tables + lines_in field_count (take k tables.structures) + 1 + wrong.index) line (sym wrong.line_is)
        (field_bad tables k s wrong.index wrong.entry at wrong.at
        (part_fault s.name wrong.entry.ty wrong.fault))

    pub structure_bad : (line : ℕ)
        → IsFaultyIn field_count (λ _. IsWrongStructure types) (first tables) tables.structures line
        → IsBadTable tables line
    structure_bad line faulty = structure_wrong faulty.index faulty.entry line faulty.at faulty.fault

    content_fault : (name : Text) (before : List ImageCase) (c : ImageCase) (content : Option Text)
        → c.content ≡ content → IsWrongContent types content → IsBadCase tables name before c
    content_fault name before c None is wrong = absurd wrong
    content_fault name before c (Some ty) is wrong =
        typed ty is (inl (part_none ty (spelled_none tables types knows ty wrong)))

    case_fault : (name : Text) (before : List ImageCase) (c : ImageCase) → IsWrongOrLate types before c
        → IsBadCase tables name before c
    case_fault name before c (inl many) = late many
    case_fault name before c (inr (inl fault)) = named fault
    case_fault name before c (inr (inr wrong)) = content_fault name before c c.content refl wrong

    enumeration_wrong : (k : ℕ) (e : ImageEnumeration) (line : ℕ) → slice_get tables.enumerations k ≡ Some e
        → IsWrongEnumeration types e (second tables + lines_in case_count (take k tables.enumerations)) line
        → IsBadTable tables line
    enumeration_wrong k e line at (inl none) =
        bad_at tables (second tables + lines_in case_count (take k tables.enumerations)) line (sym none.0)
        (no_cases_bad tables k e at none.1 (enumerations_begin (drop (suc k) tables.enumerations)))
    enumeration_wrong k e line at (inr wrong) = bad_at tables
        (second tables + lines_in case_count (take k tables.enumerations) + 1 + wrong.index) line (sym wrong.line_is)
        (case_bad tables k e wrong.index wrong.entry at wrong.at
        (case_fault e.name (take wrong.index e.cases) wrong.entry wrong.fault))

    pub enumeration_bad : (line : ℕ)
        → IsFaultyIn case_count (λ _. IsWrongEnumeration types) (second tables) tables.enumerations line
        → IsBadTable tables line
    enumeration_bad line faulty = enumeration_wrong faulty.index faulty.entry line faulty.at faulty.fault
