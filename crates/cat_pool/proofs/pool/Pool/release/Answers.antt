use Rattle.std.proofs.Common.{List, subst, sym}
use Rattle.cat_pool.specs.Nodes.{Standing}
use Rattle.cat_pool.specs.Marks.{IsMarkIn}
use Rattle.cat_pool.proofs.Cutting.{pool_released, released}
use Rattle.cat_pool.proofs.pool.Pool.release.Goals as goal

pub invariant_of-self : goal.invariant_of-self
invariant_of-self c =
    rw (c.truncate.ensures.items, c.truncate-2.ensures.items)
    (pool_released c.self.inside.parts.items c.self.inside.nodes.items c.self.invariant c.args.mark
    (subst (λ (l : List Standing). IsMarkIn c.args.mark l) (sym c.self.view_is) c.requires))

pub returns : goal.returns
returns c =
    rw (c.truncate.ensures.items, c.truncate-2.ensures.items, ← c.self.view_is)
    (released c.self.inside.parts.items c.self.inside.nodes.items c.self.invariant c.args.mark
    (subst (λ (l : List Standing). IsMarkIn c.args.mark l) (sym c.self.view_is) c.requires))
