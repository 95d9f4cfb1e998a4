use Rattle.std.proofs.Common.{rules, ◌≡◌, ◌+◌, true, false, List, drop}
use Rattle.std.proofs.lemmas.List.{drop_all}
use Rattle.cat_value.specs.declared.declaration.ItemDecl.{ItemDecl}
use Rattle.cat_value.specs.Inputs.{is_output}
use Rattle.cat_lower.specs.Scopes as words
use Rattle.cat_lower.proofs.Rests.{next}
use Rattle.cat_lower.proofs.Counting.{output_next, no_output_next, outputs_end}
use Rattle.cat_lower.proofs.scopes.output_count.Goals as goal

pub loop-item-preserved-then-not-is_output : goal.loop-item-preserved-then-not-is_output
loop-item-preserved-then-not-is_output c =
    let items : List ItemDecl = c.args.items.now in
    let n = c.loop-item.item-index in
    let item = c.item-item.result in
    let other : is_output item.kind ≡ false = search rules in
    no_output_next c.loop-item.count (words.output_count items) (drop n items) (drop (n + 1) items) item
    (next items c.as_slice-item-items.result.now n item c.as_slice-item-items.ensures c.loop-item-test.true
    c.item-item.is) other c.loop-item.invariant

pub loop-item-preserved : goal.loop-item-preserved
loop-item-preserved c =
    let items : List ItemDecl = c.args.items.now in
    let n = c.loop-item.item-index in
    let item = c.item-item.result in
    let output : is_output item.kind ≡ true = search rules in
    let more = output_next c.loop-item.count (words.output_count items) (drop n items) (drop (n + 1) items) item
    (next items c.as_slice-item-items.result.now n item c.as_slice-item-items.ensures c.loop-item-test.true
    c.item-item.is) output c.loop-item.invariant in
    search (rules, more)

pub returns : goal.returns
returns c =
    outputs_end c.loop-item.count (words.output_count c.args.items.now) (drop c.loop-item.item-index c.args.items.now)
    (drop_all c.loop-item.item-index c.args.items.now (search rules)) c.loop-item.invariant
