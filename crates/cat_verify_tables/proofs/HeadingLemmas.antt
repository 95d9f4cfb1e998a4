-- The headers that lines tell, by the tables into which their names were put.
use Rattle.std.proofs.Common.{◌≡◌, ◌+◌, ℕ, List, [], ◌++◌, length, map, ap, ◌∙◌, subst}
use Rattle.cat_check_names.specs.Table.{Table}
use Rattle.cat_image.specs.declared.tables.ImageStructure.{ImageStructure}
use Rattle.cat_image.specs.declared.tables.ImageEnumeration.{ImageEnumeration}
use Rattle.cat_image.specs.declared.tables.ImageScope.{ImageScope}
use Rattle.cat_image.specs.declared.tables.ImageTables.{ImageTables}
use Rattle.cat_image.specs.Words.{Text}
use Rattle.cat_verify_tables.specs.inside.Causes.{IsFaultyIn, lines_in}
use Rattle.cat_verify_tables.specs.inside.DeclaredWords.{AreHeadersOf, HasWrongHeader, enumeration_name}
use Rattle.cat_verify_tables.specs.inside.DeclaredWords.{enumerations_from, enumerations_named, scope_name, scopes_from}
use Rattle.cat_verify_tables.specs.inside.DeclaredWords.{structure_name, structures_named}
use Rattle.cat_verify_tables.specs.inside.DeclaredWords as wrong
use Rattle.cat_verify_tables.specs.inside.Entries.{AreRight}
use Rattle.cat_verify_tables.specs.inside.NamedWords.{IsNamedAsType, IsNamedAsTypeAt, IsWrongHeader, IsWrongHeaderAt}
use Rattle.cat_verify_tables.specs.inside.NamedWords.{case_count, field_count, item_count, names_in, numbered}
use Rattle.cat_verify_tables.proofs.NameLemmas.{names_append, names_back}

module _ (tables : ImageTables) (first : ℕ) (ss : List ImageStructure) (ss_are : ss ≡ tables.structures)
    (none one : Table) (none_is : none ≡ []) (one_is : one ≡ none ++ numbered 0 (map structure_name ss))
    (enumerations : ℕ) (enumerations_at : enumerations ≡ first + lines_in field_count ss)
    (es : List ImageEnumeration) (es_are : es ≡ tables.enumerations) where
  numbers_first : one ≡ numbered 0 (structures_named tables)
  numbers_first = one_is ∙ ap (λ (t : Table). t ++ numbered 0 (map structure_name ss)) none_is
      ∙ ap (λ (xs : List ImageStructure). numbered 0 (map structure_name xs)) ss_are

  names_first : names_in one ≡ structures_named tables
  names_first = ap names_in numbers_first ∙ names_back 0 (structures_named tables)

  enumerations_there : enumerations ≡ enumerations_from tables first
  enumerations_there =
      enumerations_at ∙ ap (λ (xs : List ImageStructure). first + lines_in field_count xs) ss_are

  -- a wrong name of an enumeration
  pub enumeration_faults : (line : ℕ)
      → IsFaultyIn case_count (IsWrongHeaderAt enumeration_name (names_in one)) enumerations es line
      → HasWrongHeader tables first line
  enumeration_faults line faulty = wrong.enumeration
      (subst (λ (ys : List ImageEnumeration). IsFaultyIn case_count
      (IsWrongHeaderAt enumeration_name (structures_named tables)) (enumerations_from tables first) ys line) es_are
      (subst (λ (k : ℕ). IsFaultyIn case_count (IsWrongHeaderAt enumeration_name (structures_named tables)) k es line)
      enumerations_there
      (subst (λ (ns : List Text). IsFaultyIn case_count (IsWrongHeaderAt enumeration_name ns) enumerations es line)
      names_first faulty)))

  module _ (two : Table) (two_is : two ≡ one ++ numbered (length ss) (map enumeration_name es)) (scopes : ℕ)
      (scopes_at : scopes ≡ enumerations + lines_in case_count es) (cs : List ImageScope)
      (cs_are : cs ≡ tables.scopes) where
    numbers_both : two
        ≡ numbered 0 (structures_named tables) ++ numbered (length tables.structures) (enumerations_named tables)
    numbers_both =
        two_is ∙ ap (λ (t : Table). t ++ numbered (length ss) (map enumeration_name es)) numbers_first
        ∙ ap (λ (xs : List ImageStructure). numbered 0 (structures_named tables)
        ++ numbered (length xs) (map enumeration_name es)) ss_are
        ∙ ap (λ (ys : List ImageEnumeration). numbered 0 (structures_named tables)
        ++ numbered (length tables.structures) (map enumeration_name ys)) es_are

    names_both : names_in two ≡ structures_named tables ++ enumerations_named tables
    names_both =
        ap names_in numbers_both
        ∙ names_append (numbered 0 (structures_named tables))
        (numbered (length tables.structures) (enumerations_named tables))
        ∙ ap (λ (ns : List Text). ns ++ names_in (numbered (length tables.structures) (enumerations_named tables)))
        (names_back 0 (structures_named tables))
        ∙ ap (λ (ns : List Text). structures_named tables ++ ns)
        (names_back (length tables.structures) (enumerations_named tables))

    scopes_there : scopes ≡ scopes_from tables first
    scopes_there =
        scopes_at ∙ ap (λ (k : ℕ). k + lines_in case_count es) enumerations_there
        ∙ ap (λ (ys : List ImageEnumeration). enumerations_from tables first + lines_in case_count ys) es_are

    -- a scope with the name of a type
    pub other_faults : (line : ℕ) → IsFaultyIn item_count (IsNamedAsTypeAt (names_in two)) scopes cs line
        → HasWrongHeader tables first line
    other_faults line faulty = wrong.other
        (subst (λ (xs : List ImageScope). IsFaultyIn item_count
        (IsNamedAsTypeAt (structures_named tables ++ enumerations_named tables)) (scopes_from tables first) xs line)
        cs_are
        (subst (λ (k : ℕ). IsFaultyIn item_count
        (IsNamedAsTypeAt (structures_named tables ++ enumerations_named tables)) k cs line) scopes_there
        (subst (λ (ns : List Text). IsFaultyIn item_count (IsNamedAsTypeAt ns) scopes cs line) names_both faulty)))

    pub are_headers : (count files : ℕ) (bare own : Table) → count ≡ length ss → files ≡ length tables.files → bare ≡ []
        → own ≡ bare ++ numbered 0 (map scope_name cs)
        → AreRight (IsWrongHeader structure_name (names_in none)) [] ss
        → AreRight (IsWrongHeader enumeration_name (names_in one)) [] es → AreRight (IsNamedAsType (names_in two)) [] cs
        → AreRight (IsWrongHeader scope_name (names_in bare)) [] cs → AreHeadersOf tables first (record {
          known = record { types = record { numbers = two; structures = count }; scopes = own; files = files };
          enumerations = enumerations;
          scopes = scopes;
        })
    are_headers count files bare own count_is files_are bare_is own_is first_right second_right others_right right =
        record {
          numbers = numbers_both;
          count = count_is ∙ ap length ss_are;
          scope_numbers = own_is ∙ ap (λ (t : Table). t ++ numbered 0 (map scope_name cs)) bare_is
              ∙ ap (λ (xs : List ImageScope). numbered 0 (map scope_name xs)) cs_are;
          files = files_are;
          enumerations_at = enumerations_there;
          scopes_at = scopes_there;
          structures = subst (AreRight (IsWrongHeader structure_name []) []) ss_are
              (subst (λ (t : Table). AreRight (IsWrongHeader structure_name (names_in t)) [] ss) none_is
              first_right);
          enumerations = subst (AreRight (IsWrongHeader enumeration_name (structures_named tables)) []) es_are
              (subst (λ (ns : List Text). AreRight (IsWrongHeader enumeration_name ns) [] es) names_first
              second_right);
          scopes = subst (AreRight (IsWrongHeader scope_name []) []) cs_are
              (subst (λ (t : Table). AreRight (IsWrongHeader scope_name (names_in t)) [] cs) bare_is right);
          others = subst (AreRight (IsNamedAsType (structures_named tables ++ enumerations_named tables)) []) cs_are
              (subst (λ (ns : List Text). AreRight (IsNamedAsType ns) [] cs) names_both others_right);
        }
