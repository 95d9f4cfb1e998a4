use Rattle.std.proofs.Common.{sym, List}
use Rattle.std.proofs.lemmas.Result.{err_from_is_err_and}
use Rattle.cat_value.specs.declared.declaration.Scope.{Scope}
use Rattle.cat_verify_tables.specs.inside.Causes.{IsFaultyIn}
use Rattle.cat_verify_tables.specs.inside.Ordering.{items_of}
use Rattle.cat_verify_tables.specs.inside.HighWords.{AreLowItems, HasHighItem}
use Rattle.cat_verify_tables.proofs.CauseLemmas.{refuses_more}
use Rattle.cat_verify_tables.proofs.EntryLemmas.{faulty_in, have_more, line_more}
use Rattle.cat_verify_tables.proofs.heights.Measures.refuse_scopes.Goals as goal

pub returns-in_err-refuse_items-clause-cause : goal.returns-in_err-refuse_items-clause-cause
returns-in_err-refuse_items-clause-cause c =
    let p = err_from_is_err_and c.from_residual.result
    c.from_residual.ensures.1 in
    let m = c.args.self.now in
    let xs = c.args.entries.now in
    let l = c.loop-scope in
    let x = c.scope-item.result in
    let within = c.loop-scope-test.true in
    let is = sym c.scope-item.is in
    let Fault = λ (before : List Scope). HasHighItem m in
    rw (p.1, p.2) (refuses_more (HasHighItem m x l.line) (IsFaultyIn items_of Fault c.args.first xs)
    (λ n high. faulty_in items_of Fault c.args.first xs l.scope-index x l.line n within is l.invariant.line high)
    c.in_err-refuse_items.field-0.0 c.in_err-refuse_items.ensures.cause)

pub loop-scope-preserved : goal.loop-scope-preserved
loop-scope-preserved c =
    let m = c.args.self.now in
    let xs = c.args.entries.now in
    let l = c.loop-scope in
    let x = c.scope-item.result in
    let within = c.loop-scope-test.true in
    let is = sym c.scope-item.is in
    record {
      line = line_more items_of xs l.scope-index x c.args.first l.line c.len.result _ within is
          l.invariant.line c.len.ensures c.in_ok-line.ensures;
      low = have_more (AreLowItems m) xs l.scope-index x within is l.invariant.low c.in_ok-refuse_items.ensures.low;
    }
