use Rattle.std.proofs.Common.{List, [], subst}
use Rattle.std.proofs.lemmas.Result.{err_from_is_err_and}
use Rattle.cat_image.specs.declared.tables.ImageStructure.{ImageStructure}
use Rattle.cat_image.specs.declared.tables.ImageEnumeration.{ImageEnumeration}
use Rattle.cat_image.specs.declared.tables.ImageScope.{ImageScope}
use Rattle.cat_verify_tables.specs.inside.Causes.{IsFaultyIn}
use Rattle.cat_verify_tables.specs.inside.Entries.{AreTold}
use Rattle.cat_verify_tables.specs.inside.NamedWords.{field_count, case_count, item_count}
use Rattle.cat_verify_tables.specs.inside.PartWords.{IsStructureOf, IsWrongStructure, IsEnumerationOf}
use Rattle.cat_verify_tables.specs.inside.PartWords.{IsWrongEnumeration}
use Rattle.cat_verify_tables.specs.inside.ItemWords.{IsScopeOf, IsWrongScope}
use Rattle.cat_verify_tables.specs.inside.DeclaredWords.{HasWrongPart}
use Rattle.cat_verify_tables.specs.inside.DeclaredWords as wrong
use Rattle.cat_verify_tables.proofs.CauseLemmas.{refuses_more}
use Rattle.cat_verify_tables.proofs.declared.parts.Goals as goal

pub returns-in_err-structures-clause-cause : goal.returns-in_err-structures-clause-cause
returns-in_err-structures-clause-cause c =
    let p = err_from_is_err_and c.from_residual.result c.from_residual.ensures.1 in
    let tables = c.args.tables.now in
    let headers = c.args.headers.now in
    let first = c.args.first in
    let Fault = λ (before : List ImageStructure). IsWrongStructure headers.known.types in
    rw (p.1, p.2) (refuses_more (IsFaultyIn field_count Fault first c.as_slice.result.now)
    (HasWrongPart tables headers first)
    (λ n faulty. wrong.structure (subst (λ (lines : List ImageStructure). IsFaultyIn field_count Fault first lines n)
    c.as_slice.ensures faulty))
    c.in_err-structures.field-0.0 c.in_err-structures.ensures.cause)

pub returns-in_err-enumerations-clause-cause : goal.returns-in_err-enumerations-clause-cause
returns-in_err-enumerations-clause-cause c =
    let p = err_from_is_err_and c.from_residual-in_err-enumerations.result
    c.from_residual-in_err-enumerations.ensures.1 in
    let tables = c.args.tables.now in
    let headers = c.args.headers.now in
    let first = headers.enumerations in
    let Fault = λ (before : List ImageEnumeration). IsWrongEnumeration headers.known.types in
    rw (p.1, p.2) (refuses_more (IsFaultyIn case_count Fault first c.as_slice-lines.result.now)
    (HasWrongPart tables headers c.args.first)
    (λ n faulty. wrong.enumeration
    (subst (λ (lines : List ImageEnumeration). IsFaultyIn case_count Fault first lines n) c.as_slice-lines.ensures
    faulty))
    c.in_err-enumerations.field-0.0 c.in_err-enumerations.ensures.cause)

pub returns-in_err-scopes-clause-cause : goal.returns-in_err-scopes-clause-cause
returns-in_err-scopes-clause-cause c =
    let p = err_from_is_err_and c.from_residual-in_err-scopes.result c.from_residual-in_err-scopes.ensures.1 in
    let tables = c.args.tables.now in
    let headers = c.args.headers.now in
    let first = headers.scopes in
    let Fault = λ (before : List ImageScope). IsWrongScope headers.known in
    rw (p.1, p.2) (refuses_more (IsFaultyIn item_count Fault first c.as_slice-2.result.now)
    (HasWrongPart tables headers c.args.first)
    (λ n faulty. wrong.scope (subst (λ (lines : List ImageScope). IsFaultyIn item_count Fault first lines n)
    c.as_slice-2.ensures faulty))
    c.in_err-scopes.field-0.0 c.in_err-scopes.ensures.cause)

pub returns-clause-told : goal.returns-clause-told
returns-clause-told c =
    let known = c.args.headers.now.known in
    record {
      structures = subst
          (λ (lines : List ImageStructure). AreTold (λ _. IsStructureOf known.types) [] lines
          c.in_ok-structures.structures)
          c.as_slice.ensures c.in_ok-structures.ensures.told;
      enumerations = subst
          (λ (lines : List ImageEnumeration). AreTold (λ _. IsEnumerationOf known.types) [] lines
          c.in_ok-enumerations.enumerations)
          c.as_slice-lines.ensures c.in_ok-enumerations.ensures.told;
      scopes = subst (λ (lines : List ImageScope). AreTold (λ _. IsScopeOf known) [] lines c.in_ok-scopes.scopes)
          c.as_slice-2.ensures c.in_ok-scopes.ensures.told;
    }
