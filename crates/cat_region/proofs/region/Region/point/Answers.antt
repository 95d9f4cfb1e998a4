use Rattle.std.proofs.Common.{length, ap, sym, ◌∙◌, subst, arith}
use Rattle.cat_region.specs.Regions.{IsRegion, IsInhabited}
use Rattle.cat_region.specs.Chosen.{point_at}
use Rattle.cat_region.specs.Choices.{IsPointOf}
use Rattle.cat_region.proofs.KeptLemmas.{length-kept, part-kept, some-kept, point-kept}
use Rattle.cat_region.proofs.ChoiceLaws.{IsPointOf-point_at}
use Rattle.cat_region.proofs.region.Region.point.Goals as goal

pub at-requires-2 : goal.at-requires-2
at-requires-2 c = omega (arith, c.requires.dim, ap (λ r. length r.dims) c.self.view_is, length-kept c.self.invariant)

pub point_in-requires-clause-part : goal.point_in-requires-clause-part
point_in-requires-clause-part c = part-kept c.args.dim c.at.result.now c.at-2.result.now c.self.invariant c.at.ensures
    c.at-2.ensures

pub point_in-requires-clause-some : goal.point_in-requires-clause-some
point_in-requires-clause-some c =
    some-kept c.args.dim c.at.result.now c.at-2.result.now c.self.invariant c.at.ensures c.at-2.ensures
    (subst (λ r. IsInhabited r) (sym c.self.view_is) c.requires.inhabited)

pub returns : goal.returns
returns c =
    let value = c.point_in.ensures ∙ point-kept c.args.dim c.at.result.now c.at-2.result.now c.self.invariant
    c.at.ensures c.at-2.ensures
    ∙ ap (λ r. point_at r c.args.dim) c.self.view_is in
    record {
      value = value;
      chosen = subst (λ x. IsPointOf c.args.self.now c.args.dim x) (sym value)
          (IsPointOf-point_at c.args.self.now c.args.dim (subst (λ r. IsRegion r) c.self.view_is c.self.invariant.sound)
          c.requires.inhabited c.requires.dim);
    }
