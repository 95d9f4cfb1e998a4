use Rattle.std.proofs.Common.{rules, ◌≡◌, ◌<◌, ◌+◌, length, get_or, arith}
use Rattle.cat_value.specs.declared.declaration.ItemDecl.{ItemDecl}
use Rattle.cat_verify_tables.specs.inside.HighWords.{IsLowItem, IsHighItem}
use Rattle.cat_verify_tables.proofs.EntryLemmas.{faulty, have_more}
use Rattle.cat_verify_tables.proofs.NameLemmas.{failed, passed}
use Rattle.cat_verify_tables.proofs.heights.Measures.refuse_items.Goals as goal

pub returns-then-not-is_low_item-clause-cause : goal.returns-then-not-is_low_item-clause-cause
returns-then-not-is_low_item-clause-cause c =
    let m = c.args.self.now in
    let xs = c.args.scope.now.items in
    let l = c.loop-item in
    let x : ItemDecl = c.item-item.result in
    let within : l.item-index < length xs = search rules in
    let is : get_or xs l.item-index x ≡ x = search rules in
    faulty (λ _ (x : ItemDecl). IsHighItem m x) (c.args.first + 1) xs l.item-index x l.line within is
    (omega (arith, l.invariant.line)) (failed _ _ _ c.is_low_item.ensures c.if-not-is_low_item.true)

pub loop-item-preserved : goal.loop-item-preserved
loop-item-preserved c =
    let m = c.args.self.now in
    let xs = c.args.scope.now.items in
    let l = c.loop-item in
    let x : ItemDecl = c.item-item.result in
    let within : l.item-index < length xs = search rules in
    let is : get_or xs l.item-index x ≡ x = search rules in
    record {
      line = omega (arith, l.invariant.line, c.in_ok-line-2.ensures);
      low = have_more (λ (x : ItemDecl). IsLowItem m x) xs l.item-index x within is l.invariant.low
          (passed _ _ _ c.is_low_item.ensures c.if-not-is_low_item.false);
    }
