use Rattle.std.proofs.Common.{◌≡◌, ℕ, length, get_or, rules}
use Rattle.std.proofs.lemmas.List.{get_or_default}
use Rattle.cat_region.proofs.Exported.{lt_is}
use Rattle.cat_guard.proofs.Exported.{entry}
use Rattle.cat_audit_table.proofs.Steps.{one_def_more}
use Rattle.cat_audit_table.proofs.defs.guard_defs.Goals as goal

pub loop-number-preserved : goal.loop-number-preserved
loop-number-preserved c =
    let n : ℕ = get_or c.args.numbers.now c.loop-number.number-index 0 in
    let at : get_or c.args.numbers.now c.loop-number.number-index n ≡ n = search (rules, get_or_default) in
    let e = entry c.args.scene.now.defs.now n
    (lt_is n (length c.args.scene.now.defs.now) (c.requires c.loop-number.number-index 0 c.loop-number-test.true)) in
    one_def_more c.args.scene.now c.args.numbers.now c.loop-number.number-index n e.value c.args.numbering.now
    c.loop-number.numbering c.guard_def.new.numbering c.loop-number.made c.push.new.self c.in_ok-guard_def.field-0
    c.loop-number-test.true at e.is c.loop-number.invariant (c.in_ok-guard_def.ensures e.value e.is)
    c.in_ok-push.ensures.ok
