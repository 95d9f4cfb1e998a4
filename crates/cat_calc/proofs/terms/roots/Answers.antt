use Rattle.std.proofs.Common.{ap, ◌∙◌, length, arith}
use Rattle.cat_sound.specs.Roots.{root_numbers}
use Rattle.cat_sound.proofs.Exported.{roots_are}
use Rattle.cat_calc.proofs.Roots.{named_at, all_met}
use Rattle.cat_calc.proofs.terms.roots.Goals as goal

pub is_root-requires : goal.is_root-requires
is_root-requires c =
    named_at c.args.defs.now c.args.forest.now.target c.args.forest.now.groups c.as_slice-group-items.result.now
    c.loop-number.number c.group-item.result c.as_slice-group-items.ensures c.requires.stands
    (omega (arith, c.loop-number-test.true)) c.group-item.is

pub returns : goal.returns
returns c =
    all_met c.args.defs.now c.args.forest.now.groups c.loop-number.number c.loop-number.roots
    (root_numbers c.args.defs.now 0 c.args.forest.now.groups)
    (omega (arith, c.loop-number-test.false, ap length c.as_slice-group-items.ensures)) c.loop-number.invariant
    ∙ ap (root_numbers c.args.defs.now 0) c.requires.stands ∙ roots_are c.args.defs.now c.args.forest.now.target
