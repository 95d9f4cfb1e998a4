use Rattle.std.proofs.Common.{rules, ◌≡◌, sym, true, false}
use Rattle.cat_value.specs.Inputs.{is_output}
use Rattle.cat_check_names.proofs.FirstOutputs.{no_output, one_output}
use Rattle.cat_check_names.proofs.building.outputs_of.Goals as goal

pub loop-item-preserved-then-not-is_output : goal.loop-item-preserved-then-not-is_output
loop-item-preserved-then-not-is_output c =
    let item = c.index-items-item.result in
    let none : is_output item.kind ≡ false = search rules in
    no_output c.args.items.now c.loop-item.item item c.loop-item.names c.loop-item.numbers (search rules)
    (sym c.index-items-item.is) none c.loop-item.invariant

pub loop-item-preserved : goal.loop-item-preserved
loop-item-preserved c =
    let item = c.index-items-item.result in
    let some : is_output item.kind ≡ true = search rules in
    one_output c.args.items.now c.loop-item.item item c.loop-item.names c.add.new.self c.loop-item.numbers
    c.push.new.self (search rules) (sym c.index-items-item.is) some (search rules) c.in_ok-push.ensures.ok
    c.loop-item.invariant
