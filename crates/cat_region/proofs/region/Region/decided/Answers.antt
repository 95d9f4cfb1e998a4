use Rattle.std.proofs.Common.{◌-◌, List, length, ap, sym, ◌∙◌, subst, IsTrue}
use Rattle.cat_region.specs.declared.dim.Dim.{Dim}
use Rattle.cat_region.specs.Regions.{is_cut_at, IsRegion, IsDecision}
use Rattle.cat_region.specs.Decided.{decided_at}
use Rattle.cat_region.proofs.TrailLemmas.{cut-kept, decided-kept}
use Rattle.cat_region.proofs.DecisionLaws.{IsDecision-decided_at}
use Rattle.cat_region.proofs.region.Region.decided.Goals as goal

pub at-requires : goal.at-requires
at-requires c = cut-kept c.self.invariant c.args.dim c.args.cut.now
    (subst (λ (ds : List Dim). IsTrue (is_cut_at ds c.args.dim c.args.cut.now)) (sym (ap (λ r. r.dims) c.self.view_is))
    c.requires)

pub returns : goal.returns
returns c =
    let value = c.decision.ensures
    ∙ decided-kept (length c.self.inside.trail - c.self.inside.made) c.args.dim c.args.cut.now c.at.result.now
    c.self.invariant c.at.ensures
    ∙ ap (λ r. decided_at r c.args.dim c.args.cut.now) c.self.view_is in
    record {
      value = value;
      exact = subst (λ o. IsDecision c.args.self.now c.args.dim c.args.cut.now o) (sym value)
          (IsDecision-decided_at c.args.self.now c.args.dim c.args.cut.now
          (subst (λ r. IsRegion r) c.self.view_is c.self.invariant.sound) c.requires);
    }
