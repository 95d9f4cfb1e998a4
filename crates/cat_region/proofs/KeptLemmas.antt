-- What a region keeps of a dimension is what its narrowings leave.
use Rattle.std.proofs.Common.{◌≡◌, ℕ, zero, suc, ◌+◌, Bool, false, List, [], ◌∷◌, length, take, Option, Some}
use Rattle.std.proofs.Common.{None, sym, ap, ◌∙◌, subst, arith}
use Rattle.std.specs.Prelude.{slice_get}
use Rattle.cat_region.specs.declared.dim.Dim.{Dim}
use Rattle.cat_region.specs.declared.extent.Extent.{Extent}
use Rattle.cat_region.specs.declared.narrowing.Narrowing.{Narrowing}
use Rattle.cat_region.specs.declared.region.NarrowingStep.{NarrowingStep}
use Rattle.cat_region.specs.Regions.{IsInhabited}
use Rattle.cat_region.specs.Extents.{start, after, is_none}
use Rattle.cat_region.specs.Decided.{lefts}
use Rattle.cat_region.specs.Chosen.{point_in, point_at}
use Rattle.cat_region.specs.inside.Parts.{IsPart}
use Rattle.cat_region.specs.inside.Trails.{IsTrail, narrowings_of, seen}
use Rattle.cat_region.proofs.TrailLemmas.{same_extent, length-lefts}
use Rattle.cat_region.proofs.PartLemmas.{IsPart-start}
use Rattle.cat_region.proofs.AdmitLemmas.{IsPart-after, some_left, point_at-left}
use Rattle.cat_region.proofs.DecisionLaws.{admits-of_IsInhabited}

lefts-at : (k : ℕ) (dims : List Dim) (ns : List Narrowing) (i : ℕ) (d : Dim) → slice_get dims i ≡ Some d
    → slice_get (lefts k dims ns) i ≡ Some (after (k + i) (start d) ns)
lefts-at k [] ns i d at = absurd (cc)
lefts-at k (c ∷ dims) ns zero d at = ap (λ (j : ℕ). Some (after j (start c) ns)) (omega arith) ∙ ap left_of at
  where
    left_of : Option Dim → Option Extent
    left_of None = None
    left_of (Some e) = Some (after (k + 0) (start e) ns)
lefts-at k (c ∷ dims) ns (suc i) d at = lefts-at (suc k) dims ns i d at
    ∙ ap (λ (j : ℕ). Some (after j (start d) ns)) (omega arith)

-- what is kept of dimension i
kept-left : {dims : List Dim} {left : List Extent} {empty : Bool} {trail : List NarrowingStep} {made : ℕ}
    (i : ℕ) (d : Dim)
    (e : Extent) → IsTrail dims left empty trail made
    → slice_get dims i ≡ Some d → slice_get left i ≡ Some e → after i (start d) (narrowings_of (take made trail)) ≡ e
kept-left {dims} {left} {empty} {trail} {made} i d e is at here =
    same_extent (after i (start d) (narrowings_of (take made trail))) e
    (sym (lefts-at 0 dims (narrowings_of (take made trail)) i d at
    ∙ ap (λ (j : ℕ). Some (after j (start d) (narrowings_of (take made trail)))) (omega arith))
    ∙ ap (λ (es : List Extent). slice_get es i) (sym is.leaves) ∙ here)

pub length-kept : {dims : List Dim} {left : List Extent} {empty : Bool} {trail : List NarrowingStep} {made : ℕ}
    → IsTrail dims left empty trail made → length left ≡ length dims
length-kept {dims} {left} {empty} {trail} {made} is = ap length is.leaves
    ∙ length-lefts 0 dims (narrowings_of (take made trail))

-- it is part of the dimension
pub part-kept : {dims : List Dim} {left : List Extent} {empty : Bool} {trail : List NarrowingStep} {made : ℕ}
    (i : ℕ) (d : Dim)
    (e : Extent) → IsTrail dims left empty trail made
    → slice_get dims i ≡ Some d → slice_get left i ≡ Some e → IsPart d e
part-kept {dims} {left} {empty} {trail} {made} i d e is at here =
    subst (λ x. IsPart d x) (kept-left i d e is at here)
    (IsPart-after dims i d (start d) (narrowings_of (take made trail)) at (IsPart-start d) is.sound.narrowings)

-- and isn't empty where something is admitted
pub some-kept : {dims : List Dim} {left : List Extent} {empty : Bool} {trail : List NarrowingStep} {made : ℕ}
    (i : ℕ) (d : Dim)
    (e : Extent) → IsTrail dims left empty trail made
    → slice_get dims i ≡ Some d → slice_get left i ≡ Some e → IsInhabited (seen dims trail made) → is_none e ≡ false
some-kept {dims} {left} {empty} {trail} {made} i d e is at here some =
    ap is_none (sym (kept-left i d e is at here))
    ∙ some_left (seen dims trail made) (admits-of_IsInhabited (seen dims trail made) is.sound some) i d at

-- so it has the point of the dimension
pub point-kept : {dims : List Dim} {left : List Extent} {empty : Bool} {trail : List NarrowingStep} {made : ℕ}
    (i : ℕ) (d : Dim)
    (e : Extent) → IsTrail dims left empty trail made
    → slice_get dims i ≡ Some d → slice_get left i ≡ Some e → point_in d e ≡ point_at (seen dims trail made) i
point-kept {dims} {left} {empty} {trail} {made} i d e is at here =
    ap (point_in d) (sym (kept-left i d e is at here)) ∙ sym (point_at-left (seen dims trail made) i d at)
