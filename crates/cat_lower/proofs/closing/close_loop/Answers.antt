use Rattle.cat_code.specs.declared.instr.Instr.TheVariants as instr
use Rattle.cat_lower.proofs.Patches.{turns}
use Rattle.cat_lower.proofs.closing.close_loop.Goals as goal

pub returns : goal.returns
returns c = record {
  closed =
      λ before part is g. turns before c.args.growing.now _ _
      (instr.Next 0) part _ _ _ g c.in_ok-put.ensures is c.in_ok-back.ensures
      c.in_ok-end.ensures c.patch.ensures;
}
