use Rattle.std.proofs.Common.{rules, ◌≡◌, ◌<◌, ◌++◌, ◌∷◌, [], List, ℕ, refl, sym, ap, ◌∙◌, subst, length, IsTrue}
use Rattle.cat_region.specs.declared.dim.Dim.{Dim}
use Rattle.cat_region.specs.declared.cut.Cut.{Cut}
use Rattle.cat_region.specs.Regions.{is_cut_at}
use Rattle.cat_region.proofs.TrailLemmas.{IsTrail-more, narrowings-made, cut-kept}
use Rattle.cat_region.proofs.region.Region.narrow.Goals as goal

-- a cut of what is seen is one of what is kept
kind_of : {seen inside : List Dim} (dim : ℕ) (c : Cut) → inside ≡ seen → IsTrue (is_cut_at seen dim c)
    → IsTrue (is_cut_at inside dim c)
kind_of dim c same kind = subst (λ (ds : List Dim). IsTrue (is_cut_at ds dim c)) (sym same) kind

pub at-left-requires : goal.at-left-requires
at-left-requires c = cut-kept c.self.invariant c.args.dim c.args.cut.now
    (kind_of c.args.dim c.args.cut.now (ap (λ r. r.dims) c.self.view_is) c.requires.cut)

pub set-requires-2 : goal.set-requires-2
set-requires-2 c = cut-kept c.self.invariant c.args.dim c.args.cut.now
    (kind_of c.args.dim c.args.cut.now (ap (λ r. r.dims) c.self.view_is) c.requires.cut)

pub invariant_of-self : goal.invariant_of-self
invariant_of-self c =
    let room : c.self.inside.made < length c.self.inside.trail = search rules in
    rw (c.set.ensures, c.set-2.ensures, c.is_none.ensures, c.narrowed-left.ensures)
    (IsTrail-more (record {
      narrowing = record { dim = c.args.dim; cut = c.args.cut.now; yes = c.args.yes };
      left = c.at-left.result.now;
      empty = c.self.inside.empty;
    })
    c.self.invariant room (kind_of c.args.dim c.args.cut.now (ap (λ r. r.dims) c.self.view_is) c.requires.cut)
    c.at-left.ensures refl)

pub returns-clause-narrowings : goal.returns-clause-narrowings
returns-clause-narrowings c =
    let room : c.self.inside.made < length c.self.inside.trail = search rules in
    rw c.set.ensures
    (narrowings-made c.self.inside.trail c.self.inside.made
    (record {
      narrowing = record { dim = c.args.dim; cut = c.args.cut.now; yes = c.args.yes };
      left = c.at-left.result.now;
      empty = c.self.inside.empty;
    }) room
    ∙ ap (λ r. r.narrowings ++ record { dim = c.args.dim; cut = c.args.cut.now; yes = c.args.yes } ∷ []) c.self.view_is)
