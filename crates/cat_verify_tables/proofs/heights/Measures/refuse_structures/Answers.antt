use Rattle.std.proofs.Common.{sym, List}
use Rattle.std.proofs.lemmas.Result.{err_from_is_err_and}
use Rattle.cat_value.specs.declared.declaration.Structure.{Structure}
use Rattle.cat_verify_tables.specs.inside.Causes.{IsFaultyIn}
use Rattle.cat_verify_tables.specs.inside.Ordering.{fields_of}
use Rattle.cat_verify_tables.specs.inside.HighWords.{AreLowFields, HasHighField}
use Rattle.cat_verify_tables.proofs.CauseLemmas.{refuses_more}
use Rattle.cat_verify_tables.proofs.EntryLemmas.{faulty_in, have_more, line_more}
use Rattle.cat_verify_tables.proofs.heights.Measures.refuse_structures.Goals as goal

pub returns-in_err-refuse_fields-clause-cause : goal.returns-in_err-refuse_fields-clause-cause
returns-in_err-refuse_fields-clause-cause c =
    let p = err_from_is_err_and c.from_residual.result
    c.from_residual.ensures.1 in
    let m = c.args.self.now in
    let xs = c.args.entries.now in
    let l = c.loop-structure in
    let x = c.structure-item.result in
    let within = c.loop-structure-test.true in
    let is = sym c.structure-item.is in
    let Fault = λ (before : List Structure). HasHighField m in
    rw (p.1, p.2) (refuses_more (HasHighField m x l.line) (IsFaultyIn fields_of Fault c.args.first xs)
    (λ n high. faulty_in fields_of Fault c.args.first xs l.structure-index x l.line n within is l.invariant.line high)
    c.in_err-refuse_fields.field-0.0 c.in_err-refuse_fields.ensures.cause)

pub loop-structure-preserved : goal.loop-structure-preserved
loop-structure-preserved c =
    let m = c.args.self.now in
    let xs = c.args.entries.now in
    let l = c.loop-structure in
    let x = c.structure-item.result in
    let within = c.loop-structure-test.true in
    let is = sym c.structure-item.is in
    record {
      line = line_more fields_of xs l.structure-index x c.args.first l.line c.len.result _
          within is l.invariant.line c.len.ensures c.in_ok-line.ensures;
      low = have_more (AreLowFields m) xs l.structure-index x within is l.invariant.low
          c.in_ok-refuse_fields.ensures.low;
    }
