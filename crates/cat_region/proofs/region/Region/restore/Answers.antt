use Rattle.std.proofs.Common.{◌≡◌, ◌<◌, ◌+◌, ◌-◌, Bool, List, ℕ, sym, ap, ◌∙◌, subst, length, take, arith}
use Rattle.cat_region.specs.declared.region.NarrowingStep.{NarrowingStep}
use Rattle.cat_region.specs.declared.dim.Dim.{Dim}
use Rattle.cat_region.specs.declared.extent.Extent.{Extent}
use Rattle.cat_region.specs.Regions.{Constraints}
use Rattle.cat_region.specs.inside.Trails.{IsTrail, narrowings_of}
use Rattle.cat_region.proofs.TrailLemmas.{IsTrail-less, last-within, narrowings-less, length-made}
use Rattle.cat_region.proofs.region.Region.restore.Goals as goal

-- a narrowing was made
some_made : {dims : List Dim} {left : List Extent} {empty : Bool} {trail : List NarrowingStep} {made : ℕ}
    (region : Constraints)
    → IsTrail dims left empty trail made
    → record { dims = dims; narrowings = narrowings_of (take made trail); room = length trail - made } ≡ region
    → 0 < length region.narrowings
    → made ≡ made - 1 + 1
some_made {dims} {left} {empty} {trail} {made} region is view some =
    let fits = is.fits in
    let count = sym (ap (λ r. length r.narrowings) view) ∙ length-made trail made fits in
    omega arith

one_less : {dims : List Dim} {left : List Extent} {empty : Bool} {trail : List NarrowingStep} {made : ℕ}
    (region : Constraints)
    → IsTrail dims left empty trail made
    → record { dims = dims; narrowings = narrowings_of (take made trail); room = length trail - made } ≡ region
    → 0 < length region.narrowings
    → IsTrail dims left empty trail (made - 1 + 1)
one_less {dims} {left} {empty} {trail} {made} region is view some =
    subst (λ (n : ℕ). IsTrail dims left empty trail n) (some_made region is view some) is

pub set-requires : goal.set-requires
set-requires c = last-within (c.self.inside.made - 1) c.at-step.result.now
    (one_less c.args.self.now c.self.invariant c.self.view_is c.requires) c.at-step.ensures

pub invariant_of-self : goal.invariant_of-self
invariant_of-self c =
    rw c.set.ensures (IsTrail-less (c.self.inside.made - 1) c.at-step.result.now
    (one_less c.args.self.now c.self.invariant c.self.view_is c.requires) c.at-step.ensures)

pub returns-clause-narrowings : goal.returns-clause-narrowings
returns-clause-narrowings c =
    narrowings-less c.self.inside.trail (c.self.inside.made - 1) c.at-step.result.now c.at-step.ensures
    ∙ ap (λ (n : ℕ). take (length (narrowings_of (take n c.self.inside.trail)) - 1)
    (narrowings_of (take n c.self.inside.trail)))
    (sym (some_made c.args.self.now c.self.invariant c.self.view_is c.requires))
    ∙ ap (λ r. take (length r.narrowings - 1) r.narrowings) c.self.view_is
