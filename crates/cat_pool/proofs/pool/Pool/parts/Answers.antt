use Rattle.std.proofs.Common.{◌≡◌, ◌∙◌, ap, arith, length, subst, sym, List, ℕ}
use Rattle.cat_pool.specs.Nodes.{AreBelow, Standing, in_range, kept_parts}
use Rattle.cat_pool.proofs.Growing.{kept-pool}
use Rattle.cat_pool.proofs.WholePools.{kept_below}
use Rattle.cat_pool.proofs.pool.Pool.parts.Goals as goal

pub part_of-requires : goal.part_of-requires
part_of-requires c =
    let within = c.requires in
    let same : kept_parts c.args.self.now ≡ c.self.inside.parts.items
    = ap kept_parts (sym c.self.view_is) ∙ kept-pool c.self.inside.parts.items c.self.inside.nodes.items
    c.self.invariant in
    record { ordered = within.0; within = let end = within.1 in omega (arith, end, ap length same) }

pub returns-clause-parts : goal.returns-clause-parts
returns-clause-parts c =
    let same : kept_parts c.args.self.now ≡ c.self.inside.parts.items
    = ap kept_parts (sym c.self.view_is) ∙ kept-pool c.self.inside.parts.items c.self.inside.nodes.items
    c.self.invariant in
    c.part_of.ensures ∙ ap (λ (l : List ℕ). in_range l c.args.refs) (sym same)

pub returns-clause-below : goal.returns-clause-below
returns-clause-below c =
    subst (λ (l : List ℕ). AreBelow (length c.args.self.now) l) (sym c.part_of.ensures)
    (subst (λ (l : List Standing). AreBelow (length l) (in_range c.self.inside.parts.items c.args.refs)) c.self.view_is
    (kept_below c.self.inside.parts.items c.self.inside.nodes.items c.args.refs c.self.invariant))
