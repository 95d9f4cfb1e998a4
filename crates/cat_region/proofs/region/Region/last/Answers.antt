use Rattle.std.proofs.Common.{◌≡◌, ◌-◌, ◌+◌, ℕ, take, ap, sym, ◌∙◌, arith}
use Rattle.cat_region.specs.Regions.{last_narrowing}
use Rattle.cat_region.specs.inside.Trails.{narrowings_of}
use Rattle.cat_region.proofs.TrailLemmas.{last_narrowing-more, narrowings-last}
use Rattle.cat_region.proofs.region.Region.last.Goals as goal

one_less : (made : ℕ) → (made ≡ 0 → ⊥) → made ≡ made - 1 + 1
one_less made some = omega arith

pub returns : goal.returns
returns c =
    sym (last_narrowing-more (narrowings_of (take (c.self.inside.made - 1) c.self.inside.trail))
    c.at.result.now.narrowing)
    ∙ ap last_narrowing (sym (narrowings-last c.self.inside.trail (c.self.inside.made - 1) c.at.result.now c.at.ensures)
    ∙ ap (λ (n : ℕ). narrowings_of (take n c.self.inside.trail)) (sym (one_less c.self.inside.made c.if-self-eq0.false))
    ∙ ap (λ r. r.narrowings) c.self.view_is)
