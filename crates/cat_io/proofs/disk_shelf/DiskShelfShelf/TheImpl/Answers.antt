use Rattle.std.proofs.Common.{arith, refl}
use Rattle.std.proofs.lemmas.Grind.{common_steps}
use Rattle.cat_io.proofs.Lists.{reads_of}
use Rattle.cat_io.proofs.disk_shelf.DiskShelfShelf.TheImpl.Goals as goal

pub read-tells : goal.read-tells
read-tells g c = record {
  reads = reads_of _ _ _ _ _ c.result c.ensures.state (grind (arith, common_steps, c.ensures.short))
      (λ _. refl) (λ _. tt);
  refused = c.ensures.refused;
}
