use Rattle.std.proofs.Common.{arith}
use Rattle.std.proofs.lemmas.Grind.{common_steps}
use Rattle.cat_io.proofs.Lists.{reads_of}
use Rattle.cat_io.proofs.pure_shelf.PureShelfShelf.TheImpl.Goals as goal

pub read-tells : goal.read-tells
read-tells c = record {
  reads = reads_of _ _ _ _ _ c.result c.ensures.state (grind (arith, common_steps, c.ensures.ok))
      (λ is. grind (arith, common_steps, c.ensures.answer)) (λ is. grind (arith, common_steps, c.ensures.answer));
  refused = c.ensures.refused;
}
