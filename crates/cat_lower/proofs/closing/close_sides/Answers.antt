use Rattle.cat_code.specs.declared.instr.Instr.TheVariants as instr
use Rattle.cat_lower.proofs.Patches.{sides}
use Rattle.cat_lower.proofs.closing.close_sides.Goals as goal

pub returns : goal.returns
returns c = record {
  closed =
      λ before middle a b is_test is_first g h. sides before middle c.args.growing.now _ _ (λ t. instr.JumpFalse t)
      (instr.JumpFalse 0) (instr.Jump 0)
      a b _ _ _ _ g h is_test is_first c.in_ok-second.ensures c.in_ok-end.ensures c.patch.ensures c.patch-2.ensures;
}
