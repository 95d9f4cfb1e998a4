use Rattle.std.proofs.Common.{arith}
use Rattle.cat_verify_shapes.proofs.PassLemmas.{grows_then}
use Rattle.cat_verify_shapes.proofs.forms.Forms.add_row.Goals as goal

pub loop-left-preserved : goal.loop-left-preserved
loop-left-preserved c = record {
  within = omega (arith, c.loop-left.invariant.within);
  grows = grows_then c.args.self.now c.loop-left.self c.add-in-loop-left.new.self c.loop-left.invariant.grows
      c.in_ok-row-2.ensures.grows;
}
