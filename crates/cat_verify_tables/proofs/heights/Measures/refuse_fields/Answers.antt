use Rattle.std.proofs.Common.{rules, ◌≡◌, ◌<◌, ◌+◌, length, get_or, arith}
use Rattle.cat_value.specs.declared.declaration.Field.{Field}
use Rattle.cat_verify_tables.specs.inside.HighWords.{IsLowPart, IsHighPart}
use Rattle.cat_verify_tables.proofs.EntryLemmas.{faulty, have_more}
use Rattle.cat_verify_tables.proofs.NameLemmas.{failed, passed}
use Rattle.cat_verify_tables.proofs.heights.Measures.refuse_fields.Goals as goal

pub returns-then-not-is_low_part-clause-cause : goal.returns-then-not-is_low_part-clause-cause
returns-then-not-is_low_part-clause-cause c =
    let m = c.args.self.now in
    let xs = c.args.structure.now.fields in
    let l = c.loop-field in
    let x : Field = c.field-item.result in
    let within : l.field-index < length xs = search rules in
    let is : get_or xs l.field-index x ≡ x = search rules in
    faulty (λ _ (x : Field). IsHighPart m x.ty) (c.args.first + 1) xs l.field-index x l.line within is
    (omega (arith, l.invariant.line)) (failed _ _ _ c.is_low_part.ensures c.if-not-is_low_part.true)

pub loop-field-preserved : goal.loop-field-preserved
loop-field-preserved c =
    let m = c.args.self.now in
    let xs = c.args.structure.now.fields in
    let l = c.loop-field in
    let x : Field = c.field-item.result in
    let within : l.field-index < length xs = search rules in
    let is : get_or xs l.field-index x ≡ x = search rules in
    record {
      line = omega (arith, l.invariant.line, c.in_ok-line-2.ensures);
      low = have_more (λ (x : Field). IsLowPart m x.ty) xs l.field-index x within is l.invariant.low
          (passed _ _ _ c.is_low_part.ensures c.if-not-is_low_part.false);
    }
