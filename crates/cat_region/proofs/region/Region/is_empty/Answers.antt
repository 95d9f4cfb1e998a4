use Rattle.std.proofs.Common.{◌-◌, length, ap, sym, ◌∙◌, subst}
use Rattle.cat_region.specs.Regions.{IsRegion}
use Rattle.cat_region.specs.Decided.{admits_none}
use Rattle.cat_region.proofs.TrailLemmas.{none-kept}
use Rattle.cat_region.proofs.AdmitLemmas.{IsEmpty-of_admits_none}
use Rattle.cat_region.proofs.DecisionLaws.{IsInhabited-of_admits}
use Rattle.cat_region.proofs.region.Region.is_empty.Goals as goal

pub returns : goal.returns
returns c =
    let value = none-kept (length c.self.inside.trail - c.self.inside.made) c.self.invariant
    ∙ ap admits_none c.self.view_is in
    let sound = subst (λ r. IsRegion r) c.self.view_is c.self.invariant.sound in
    record {
      value = value;
      empty = λ h. IsEmpty-of_admits_none c.args.self.now sound (sym value ∙ h);
      inhabited = λ h. IsInhabited-of_admits c.args.self.now sound (sym value ∙ h);
    }
