use Rattle.std.proofs.Common.{arith, ap, [], length}
use Rattle.cat_pool.proofs.Growing.{length-seen}
use Rattle.cat_pool.proofs.pool.Pool.len.Goals as goal

pub returns : goal.returns
returns c =
    let long = length-seen c.self.inside.parts.items [] c.self.inside.nodes.items in
    omega (arith, c.len-count.ensures, c.self.inside.nodes.ok.0, long, ap length c.self.view_is)
