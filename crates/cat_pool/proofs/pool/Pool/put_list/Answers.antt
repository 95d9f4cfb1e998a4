use Rattle.std.proofs.Common.{◌≡◌, ◌++◌, ◌∷◌, [], IfOk, OnOk, length, List, subst, sym}
use Rattle.cat_pool.specs.declared.pool.Compound.TheVariants as compound
use Rattle.cat_pool.specs.Nodes.{AreBelow, Standing}
use Rattle.cat_pool.specs.inside.Laid.{seen}
use Rattle.cat_pool.proofs.Growing.{whole_of}
use Rattle.cat_pool.proofs.WholePools.{place_laid, pool_laid, seen_laid}
use Rattle.cat_pool.proofs.pool.Pool.put_list.Goals as goal

pub invariant_of-self : goal.invariant_of-self
invariant_of-self c =
    pool_laid compound.List c.self.inside.parts.items c.args.parts.now c.lay.new.kept.items c.self.inside.nodes.items
    c.lay.new.nodes.items c.self.invariant
    (subst (λ (l : List Standing). AreBelow (length l) c.args.parts.now) (sym c.self.view_is) c.requires)
    c.lay.result c.lay.ensures.places c.lay.ensures.fits c.lay.ensures.nodes c.lay.ensures.kept c.lay.ensures.err

pub returns-clause-place : goal.returns-clause-place
returns-clause-place c =
    subst (λ (l : List Standing). IfOk c.lay.result (λ r. r ≡ length l)) c.self.view_is
    (place_laid compound.List c.self.inside.parts.items c.args.parts.now c.lay.new.kept.items c.self.inside.nodes.items
    c.lay.new.nodes.items c.self.invariant
    (subst (λ (l : List Standing). AreBelow (length l) c.args.parts.now) (sym c.self.view_is) c.requires)
    c.lay.result c.lay.ensures.place)

pub returns-clause-ok : goal.returns-clause-ok
returns-clause-ok c =
    subst (λ (l : List Standing). OnOk c.lay.result
    (seen c.lay.new.kept.items [] c.lay.new.nodes.items ≡ l ++ whole_of compound.List l c.args.parts.now ∷ []))
    c.self.view_is
    (seen_laid compound.List c.self.inside.parts.items c.args.parts.now c.lay.new.kept.items c.self.inside.nodes.items
    c.lay.new.nodes.items c.self.invariant
    (subst (λ (l : List Standing). AreBelow (length l) c.args.parts.now) (sym c.self.view_is) c.requires)
    c.lay.result c.lay.ensures.nodes c.lay.ensures.kept)
