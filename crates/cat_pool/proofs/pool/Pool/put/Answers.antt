use Rattle.std.proofs.Common.{rules, ◌<◌, ◌+◌, arith, ap, [], length, List, subst, sym}
use Rattle.cat_pool.specs.Nodes.{IsPlain, Standing}
use Rattle.cat_pool.proofs.Growing.{length-seen}
use Rattle.cat_pool.proofs.WholePools.{pool_plain, seen_plain}
use Rattle.cat_pool.proofs.pool.Pool.put.Goals as goal

pub invariant_of-self-2 : goal.invariant_of-self-2
invariant_of-self-2 c =
    let fits : length c.self.inside.nodes.items + 1 < 4294967296 = search rules in
    rw c.in_ok-push.ensures.items
    (pool_plain c.self.inside.parts.items c.self.inside.nodes.items c.args.node c.self.invariant
    (subst (λ (l : List Standing). IsPlain l c.args.node) (sym c.self.view_is) c.requires) fits)

pub returns-clause-place : goal.returns-clause-place
returns-clause-place c =
    let long = length-seen c.self.inside.parts.items [] c.self.inside.nodes.items in
    omega (arith, c.len-place.ensures, c.self.inside.nodes.ok.0, long, ap length c.self.view_is)

pub returns-clause-ok : goal.returns-clause-ok
returns-clause-ok c =
    rw (c.in_ok-push.ensures.items, ← c.self.view_is)
    (seen_plain c.self.inside.parts.items c.self.inside.nodes.items c.args.node
    (subst (λ (l : List Standing). IsPlain l c.args.node) (sym c.self.view_is) c.requires))
