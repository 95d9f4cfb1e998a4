use Rattle.std.proofs.Common.{rules, ◌≡◌, ◌<◌, ◌+◌, length, get_or, arith}
use Rattle.cat_value.specs.declared.declaration.Case.{Case}
use Rattle.cat_verify_tables.specs.inside.HighWords.{IsLowContent, IsHighContent}
use Rattle.cat_verify_tables.proofs.EntryLemmas.{faulty, have_more}
use Rattle.cat_verify_tables.proofs.NameLemmas.{failed, passed}
use Rattle.cat_verify_tables.proofs.heights.Measures.refuse_cases.Goals as goal

pub returns-then-not-is_low_content-clause-cause : goal.returns-then-not-is_low_content-clause-cause
returns-then-not-is_low_content-clause-cause c =
    let m = c.args.self.now in
    let xs = c.args.enumeration.now.cases in
    let l = c.loop-case in
    let x : Case = c.case-item.result in
    let within : l.case-index < length xs = search rules in
    let is : get_or xs l.case-index x ≡ x = search rules in
    faulty (λ _ (x : Case). IsHighContent m x.content) (c.args.first + 1) xs l.case-index x l.line within is
    (omega (arith, l.invariant.line)) (failed _ _ _ c.is_low_content.ensures c.if-not-is_low_content.true)

pub loop-case-preserved : goal.loop-case-preserved
loop-case-preserved c =
    let m = c.args.self.now in
    let xs = c.args.enumeration.now.cases in
    let l = c.loop-case in
    let x : Case = c.case-item.result in
    let within : l.case-index < length xs = search rules in
    let is : get_or xs l.case-index x ≡ x = search rules in
    record {
      line = omega (arith, l.invariant.line, c.in_ok-line-2.ensures);
      low = have_more (λ (x : Case). IsLowContent m x.content) xs l.case-index x within is l.invariant.low
          (passed _ _ _ c.is_low_content.ensures c.if-not-is_low_content.false);
    }
