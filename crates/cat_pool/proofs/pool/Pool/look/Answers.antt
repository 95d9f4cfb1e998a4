use Rattle.std.proofs.Common.{◌≡◌, ◌<◌, Some, slice_get, arith, ap, [], length, subst, List}
use Rattle.cat_pool.specs.Nodes.{IsPlaced, Standing, value_in, values}
use Rattle.cat_pool.proofs.Growing.{length-seen}
use Rattle.cat_pool.proofs.WholePools.{placed_in, read_at, stands_for}
use Rattle.cat_pool.proofs.pool.Pool.look.Goals as goal

pub index-requires : goal.index-requires
index-requires c =
    let long = length-seen c.self.inside.parts.items [] c.self.inside.nodes.items in
    let below = c.requires in
    omega (arith, below, c.self.inside.nodes.ok.0, long, ap length c.self.view_is)

pub returns-clause-value : goal.returns-clause-value
returns-clause-value c =
    let long = length-seen c.self.inside.parts.items [] c.self.inside.nodes.items in
    let below = c.requires in
    let there : c.args.r < length c.self.inside.nodes.items = omega (arith, below, long, ap length c.self.view_is) in
    subst (λ (l : List Standing). slice_get (values l) c.args.r ≡ Some (value_in l c.index.result.now)) c.self.view_is
    (stands_for c.self.inside.parts.items c.self.inside.nodes.items c.args.r c.index.result.now c.self.invariant
    (read_at c.self.inside.nodes.items c.args.r c.index.result.now there c.index.ensures))

pub returns-clause-parts : goal.returns-clause-parts
returns-clause-parts c =
    let long = length-seen c.self.inside.parts.items [] c.self.inside.nodes.items in
    let below = c.requires in
    let there : c.args.r < length c.self.inside.nodes.items = omega (arith, below, long, ap length c.self.view_is) in
    subst (λ (l : List Standing). IsPlaced l c.args.r c.index.result.now) c.self.view_is
    (placed_in c.self.inside.parts.items c.self.inside.nodes.items c.args.r c.index.result.now c.self.invariant
    (read_at c.self.inside.nodes.items c.args.r c.index.result.now there c.index.ensures))
