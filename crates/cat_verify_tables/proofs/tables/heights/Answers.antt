use Rattle.std.proofs.Common.{List, refl, subst, Bor}
use Rattle.std.proofs.lemmas.Result.{err_from_is_err_and}
use Rattle.cat_scope.specs.Names.{AllHave}
use Rattle.cat_value.specs.declared.declaration.Structure.{Structure}
use Rattle.cat_value.specs.declared.declaration.Enumeration.{Enumeration}
use Rattle.cat_value.specs.declared.table.TypeHeights.{TypeHeights}
use Rattle.cat_verify_tables.specs.declared.declared.Declaring.{Declaring}
use Rattle.cat_verify_tables.specs.declared.heights.Measures.{Measures}
use Rattle.cat_verify_tables.specs.inside.Causes.{IsFaultyIn}
use Rattle.cat_verify_tables.specs.inside.HighWords.{AreLowCases, AreLowFields, AreMeasures}
use Rattle.cat_verify_tables.specs.inside.HighWords.{HasHighCase, HasHighField}
use Rattle.cat_verify_tables.specs.inside.LowWords.{AreMeasuresOf, HasHighPart}
use Rattle.cat_verify_tables.specs.inside.LowWords as high
use Rattle.cat_verify_tables.specs.inside.Ordering.{cases_of, fields_of}
use Rattle.cat_verify_tables.proofs.CauseLemmas.{refuses_more}
use Rattle.cat_verify_tables.proofs.LowBy.{high_scopes, low_by}
use Rattle.cat_verify_tables.proofs.tables.heights.Goals as goal

-- what is declared, with its heights
abbrev measures_of : Bor Declaring → TypeHeights → Measures
measures_of parts heights = record {
  structures = record { ref_ptr = parts.ref_ptr; now = parts.now.structures };
  enumerations = record { ref_ptr = parts.ref_ptr; now = parts.now.enumerations };
  heights = heights;
}

are_measures : (parts : Bor Declaring) (heights : TypeHeights) → AreMeasures (measures_of parts heights)
    → AreMeasuresOf parts.now (measures_of parts heights)
are_measures parts heights are = record { structures = refl; enumerations = refl; heights = are }

pub returns-in_err-refuse_structures-clause-cause : goal.returns-in_err-refuse_structures-clause-cause
returns-in_err-refuse_structures-clause-cause c =
    let p = err_from_is_err_and c.from_residual-in_err-refuse_structures.result
    c.from_residual-in_err-refuse_structures.ensures.1 in
    let m = measures_of c.args.parts c.in_ok-heights.heights in
    rw (p.1, p.2) (refuses_more (IsFaultyIn fields_of (λ _. HasHighField m) c.args.first c.as_slice.result.now)
    (HasHighPart c.args.parts.now c.args.headers.now c.args.first)
    (λ n faulty. high.structure m (are_measures c.args.parts c.in_ok-heights.heights c.in_ok-heights.ensures)
    (subst (λ (ss : List Structure). IsFaultyIn fields_of (λ _. HasHighField m) c.args.first ss n) c.as_slice.ensures
    faulty))
    c.in_err-refuse_structures.field-0.0 c.in_err-refuse_structures.ensures.cause)

pub returns-in_err-refuse_enumerations-clause-cause : goal.returns-in_err-refuse_enumerations-clause-cause
returns-in_err-refuse_enumerations-clause-cause c =
    let p = err_from_is_err_and c.from_residual-in_err-refuse_enumerations.result
    c.from_residual-in_err-refuse_enumerations.ensures.1 in
    let m = measures_of c.args.parts c.in_ok-heights.heights in
    let first = c.args.headers.now.enumerations in
    rw (p.1, p.2) (refuses_more (IsFaultyIn cases_of (λ _. HasHighCase m) first c.as_slice-enumerations.result.now)
    (HasHighPart c.args.parts.now c.args.headers.now c.args.first)
    (λ n faulty. high.enumeration m (are_measures c.args.parts c.in_ok-heights.heights c.in_ok-heights.ensures)
    (subst (λ (es : List Enumeration). IsFaultyIn cases_of (λ _. HasHighCase m) first es n)
    c.as_slice-enumerations.ensures faulty))
    c.in_err-refuse_enumerations.field-0.0 c.in_err-refuse_enumerations.ensures.cause)

pub returns-in_err-refuse_scopes-clause-cause : goal.returns-in_err-refuse_scopes-clause-cause
returns-in_err-refuse_scopes-clause-cause c =
    let p = err_from_is_err_and c.from_residual-in_err-refuse_scopes.result
    c.from_residual-in_err-refuse_scopes.ensures.1 in
    rw (p.1, p.2) (high_scopes _ c.args.parts.now
    (record { structures = refl; enumerations = refl; heights = c.in_ok-heights.ensures }) c.as_slice-2.result.now
    c.as_slice-2.ensures c.args.headers.now c.args.first c.in_err-refuse_scopes.field-0.0
    c.in_err-refuse_scopes.ensures.cause)

pub returns-clause-low : goal.returns-clause-low
returns-clause-low c =
    let m = measures_of c.args.parts c.in_ok-heights.heights in
    low_by _ c.args.parts.now
    (record { structures = refl; enumerations = refl; heights = c.in_ok-heights.ensures }) c.as_slice-2.result.now
    c.as_slice-2.ensures c.in_ok-heights.heights refl
    (subst (AllHave (AreLowFields m)) c.as_slice.ensures c.in_ok-refuse_structures.ensures.low)
    (subst (AllHave (AreLowCases m)) c.as_slice-enumerations.ensures c.in_ok-refuse_enumerations.ensures.low)
    c.in_ok-refuse_scopes.ensures.low
