use Rattle.std.proofs.Common.{sym, List}
use Rattle.std.proofs.lemmas.Result.{err_from_is_err_and}
use Rattle.cat_value.specs.declared.declaration.Enumeration.{Enumeration}
use Rattle.cat_verify_tables.specs.inside.Causes.{IsFaultyIn}
use Rattle.cat_verify_tables.specs.inside.Ordering.{cases_of}
use Rattle.cat_verify_tables.specs.inside.HighWords.{AreLowCases, HasHighCase}
use Rattle.cat_verify_tables.proofs.CauseLemmas.{refuses_more}
use Rattle.cat_verify_tables.proofs.EntryLemmas.{faulty_in, have_more, line_more}
use Rattle.cat_verify_tables.proofs.heights.Measures.refuse_enumerations.Goals as goal

pub returns-in_err-refuse_cases-clause-cause : goal.returns-in_err-refuse_cases-clause-cause
returns-in_err-refuse_cases-clause-cause c =
    let p = err_from_is_err_and c.from_residual.result
    c.from_residual.ensures.1 in
    let m = c.args.self.now in
    let xs = c.args.entries.now in
    let l = c.loop-enumeration in
    let x = c.enumeration-item.result in
    let within = c.loop-enumeration-test.true in
    let is = sym c.enumeration-item.is in
    let Fault = λ (before : List Enumeration). HasHighCase m in
    rw (p.1, p.2) (refuses_more (HasHighCase m x l.line) (IsFaultyIn cases_of Fault c.args.first xs)
    (λ n high. faulty_in cases_of Fault c.args.first xs l.enumeration-index x l.line n within is l.invariant.line high)
    c.in_err-refuse_cases.field-0.0 c.in_err-refuse_cases.ensures.cause)

pub loop-enumeration-preserved : goal.loop-enumeration-preserved
loop-enumeration-preserved c =
    let m = c.args.self.now in
    let xs = c.args.entries.now in
    let l = c.loop-enumeration in
    let x = c.enumeration-item.result in
    let within = c.loop-enumeration-test.true in
    let is = sym c.enumeration-item.is in
    record {
      line = line_more cases_of xs l.enumeration-index x c.args.first l.line c.len.result _
          within is l.invariant.line c.len.ensures c.in_ok-line.ensures;
      low = have_more (AreLowCases m) xs l.enumeration-index x within is l.invariant.low
          c.in_ok-refuse_cases.ensures.low;
    }
