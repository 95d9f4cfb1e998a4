use Rattle.std.proofs.Common.{◌∙◌, ap, arith}
use Rattle.cat_pool.specs.Marks.{mark_of}
use Rattle.cat_pool.proofs.WholePools.{mark-seen}
use Rattle.cat_pool.proofs.pool.Pool.mark.Goals as goal

pub returns : goal.returns
returns c =
    mark-seen c.self.inside.parts.items c.self.inside.nodes.items _ _ c.self.invariant
    (omega (arith, c.len-nodes.ensures, c.self.inside.nodes.ok.0))
    (omega (arith, c.len-parts.ensures, c.self.inside.parts.ok.0))
    ∙ ap mark_of c.self.view_is
