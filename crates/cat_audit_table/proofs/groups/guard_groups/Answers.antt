use Rattle.std.proofs.Common.{List, ℕ, ap, map, ◌∙◌}
use Rattle.cat_audit_table.specs.inside.Placed.{place_in}
use Rattle.cat_audit_table.proofs.Placing.{group_more}
use Rattle.cat_audit_table.proofs.groups.guard_groups.Goals as goal

pub loop-group-preserved : goal.loop-group-preserved
loop-group-preserved c =
    group_more c.args.numbers.now c.args.groups.now c.loop-group.group-index c.group-item.result c.loop-group.made
    c.push.new.self c.in_ok-defs.defs c.in_ok-excepted_by.excepted_by c.loop-group-test.true c.group-item.is
    (c.in_ok-defs.ensures ∙ ap (λ (ns : List ℕ). map (λ n. place_in n c.args.numbers.now) ns) c.as_slice.ensures)
    (c.in_ok-excepted_by.ensures ∙ c.as_slice-in-loop-group.ensures) c.loop-group.invariant c.in_ok-push.ensures.ok
