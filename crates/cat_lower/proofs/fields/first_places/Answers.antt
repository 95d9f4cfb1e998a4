use Rattle.std.proofs.Common.{rules, ◌≡◌, ◌≤◌, ◌<◌, ◌-◌, ◌∙◌, suc, [], drop, map, length, ap, arith}
use Rattle.std.proofs.lemmas.List.{drop_all}
use Rattle.cat_lower.proofs.Rests.{rest_from}
use Rattle.cat_lower.proofs.Picking.{indices_none, length_indices, place_passed, place_set}
use Rattle.cat_lower.proofs.fields.first_places.Goals as goal

pub loop-at-init : goal.loop-at-init
loop-at-init c =
    let count = length c.args.fields.now in
    let none : drop count c.args.fields.now ≡ [] = drop_all count c.args.fields.now (omega arith) in
    search (rules, none, indices_none 0 c.args.count count)

pub set-requires : goal.set-requires
set-requires c =
    let long : length c.loop-at.places ≡ c.args.count =
    ap length c.loop-at.invariant
    ∙ length_indices 0 c.args.count c.loop-at.at (map (λ f. f.field) (drop c.loop-at.at c.args.fields.now)) in
    search (rules, long, arith)

pub loop-at-preserved-then-number-count : goal.loop-at-preserved-then-number-count
loop-at-preserved-then-number-count c =
    let place : c.loop-at.at ≡ suc (c.loop-at.at - 1) = let more = c.loop-at-test.true in omega (arith, more) in
    let most : c.args.count ≤ c.at.result.now.field = search rules in
    place_passed c.args.count c.loop-at.at (c.loop-at.at - 1) c.args.fields.now c.at.result.now c.loop-at.places place
    (rest_from c.args.fields.now (c.loop-at.at - 1) c.at.result.now c.at.ensures)
    (λ less. omega (arith, most, less)) c.loop-at.invariant

pub loop-at-preserved : goal.loop-at-preserved
loop-at-preserved c =
    let place : c.loop-at.at ≡ suc (c.loop-at.at - 1) = let more = c.loop-at-test.true in omega (arith, more) in
    let less : c.at.result.now.field < c.args.count = search rules in
    place_set c.args.count c.loop-at.at (c.loop-at.at - 1) c.args.fields.now c.at.result.now c.loop-at.places _ place
    (rest_from c.args.fields.now (c.loop-at.at - 1) c.at.result.now c.at.ensures) less c.set.ensures c.loop-at.invariant
