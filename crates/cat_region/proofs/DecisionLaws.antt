-- What a region decides is exact, and stays decided where it is narrowed.
use Rattle.std.proofs.Common.{◌≡◌, inl, inr, ◌↔◌, ℕ, [], ◌∷◌, Option, Some, None}
use Rattle.std.proofs.Common.{Bool, true, false, not, IsTrue, refl, sym, ap, ◌∙◌, subst, if◌then◌else◌, true≢false}
use Rattle.std.specs.Prelude.{◌&&◌}
use Rattle.std.specs.List.{list_all}
use Rattle.std.proofs.Math.Bool.{beq, Bool-set}
use Rattle.std.proofs.Math.Logic.{∥∥₁_elim}
use Rattle.std.proofs.Props.{props}
use Rattle.std.proofs.lemmas.List.Folds.{list_all-append}
use Rattle.cat_region.specs.declared.cut.Cut.{Cut}
use Rattle.cat_region.specs.declared.point.Point.{Point}
use Rattle.cat_region.specs.declared.narrowing.Narrowing.{Narrowing}
use Rattle.cat_region.specs.Points.{answer}
use Rattle.cat_region.specs.Regions.{Constraints, with_narrowing, narrowed_to, is_cut_at, IsRegion, Valuation, agrees}
use Rattle.cat_region.specs.Regions.{Admits}
use Rattle.cat_region.specs.Regions.{IsInhabited, Occurs, AreAll, IsDecision}
use Rattle.cat_region.specs.Decided.{admits_none, excludes, decided_at}
use Rattle.cat_region.specs.Chosen.{point_at}
use Rattle.cat_region.proofs.Tests.{and-parts}
use Rattle.cat_region.proofs.AdmitLemmas.{IsEmpty-of_admits_none, Admits-points}

-- one narrowing more admits what agrees with it
pub Admits-with_narrowing : (region : Constraints) (n : Narrowing) (v : Valuation)
    → Admits (with_narrowing region n) v ↔ (Admits region v × IsTrue (agrees (v n.dim) n))
Admits-with_narrowing region n v = (
  λ admits.
      let both = and-parts (list_all (λ m. agrees (v m.dim) m) region.narrowings) (agrees (v n.dim) n && true)
      (sym (list_all-append (λ m. agrees (v m.dim) m) region.narrowings (n ∷ [])) ∙ admits.agreeing) in
      (record { valuation = admits.valuation; agreeing = both.0 }, (and-parts (agrees (v n.dim) n) true both.1).0),
  λ h. record {
    valuation = h.0.valuation;
    agreeing =
        list_all-append (λ m. agrees (v m.dim) m) region.narrowings (n ∷ []) ∙ rw (h.0.agreeing, h.1) refl;
  },
)

pub IsRegion-with_narrowing : (region : Constraints) (n : Narrowing) → IsRegion region
    → IsTrue (is_cut_at region.dims n.dim n.cut) → IsRegion (with_narrowing region n)
IsRegion-with_narrowing region n sound kind = record {
  dims = sound.dims;
  narrowings = list_all-append (λ m. is_cut_at region.dims m.dim m.cut) region.narrowings (n ∷ [])
      ∙ rw (sound.narrowings, kind) refl;
}

agrees_is : (x : Point) (i : ℕ) (c : Cut) (b : Bool) → IsTrue (agrees x (record { dim = i; cut = c; yes = b }))
    ↔ (answer c x ≡ b)
agrees_is x i c b = by (answer c x) b
  where
    by : (a b : Bool) → (beq a b ≡ true) ↔ (a ≡ b)
    by true true = (λ h. refl, λ h. refl)
    by true false = (λ h. absurd (true≢false (sym h)), λ h. absurd (true≢false h))
    by false true = (λ h. absurd (true≢false (sym h)), λ h. absurd (true≢false (sym h)))
    by false false = (λ h. refl, λ h. refl)

-- where a region doesn't admit nothing, something is admitted, and the other way round
pub IsInhabited-of_admits : (region : Constraints) → IsRegion region → admits_none region ≡ false → IsInhabited region
IsInhabited-of_admits region sound h = (∣ (point_at region, Admits-points region sound h) ∣₁)

pub admits-of_IsInhabited : (region : Constraints) → IsRegion region → IsInhabited region → admits_none region ≡ false
admits-of_IsInhabited region sound some = ∥∥₁_elim some (Bool-set (admits_none region) false)
    (λ found. by (admits_none region) refl found)
  where
    by : (b : Bool) → admits_none region ≡ b → ((v : Valuation) × Admits region v) → admits_none region ≡ false
    by true e found = absurd (IsEmpty-of_admits_none region sound e found.0 found.1)
    by false e found = e

-- an answer that isn't excluded occurs
occurs : (region : Constraints) (i : ℕ) (c : Cut) (b : Bool) → IsRegion region → IsTrue (is_cut_at region.dims i c)
    → excludes region i c b ≡ false → Occurs region i c b
occurs region i c b sound kind h =
    let n = narrowed_to i c b in
    let next = with_narrowing region n in
    let admits = (Admits-with_narrowing region n (point_at next)).0
    (Admits-points next (IsRegion-with_narrowing region n sound kind) h) in
    (∣ (point_at next, admits.0, (agrees_is (point_at next i) i c b).0 admits.1) ∣₁)

-- where an answer is excluded, all have the other
all_but : (region : Constraints) (i : ℕ) (c : Cut) (b : Bool) → IsRegion region → IsTrue (is_cut_at region.dims i c)
    → excludes region i c b ≡ true → AreAll region i c (not b)
all_but region i c b sound kind h v admits =
    let n = narrowed_to i c b in
    other (answer c (v i)) b (λ e. IsEmpty-of_admits_none (with_narrowing region n)
    (IsRegion-with_narrowing region n sound kind) h v
    ((Admits-with_narrowing region n v).1 (admits, (agrees_is (v i) i c b).1 e)))
  where
    other : (a d : Bool) → (a ≡ d → ⊥) → a ≡ not d
    other true true h = absurd (h refl)
    other true false h = refl
    other false true h = refl
    other false false h = absurd (h refl)

-- what is decided is exact
pub IsDecision-decided_at : (region : Constraints) (i : ℕ) (c : Cut) → IsRegion region
    → IsTrue (is_cut_at region.dims i c)
    → IsDecision region i c (decided_at region i c)
unfolding decided_at
IsDecision-decided_at region i c sound kind = by_none (admits_none region) refl
  where
    by_true : (b : Bool) → excludes region i c true ≡ b → admits_none region ≡ false → excludes region i c false ≡ false
        → IsDecision region i c (if b then Some false else None)
    by_true true e some f = (IsInhabited-of_admits region sound some, all_but region i c true sound kind e)
    by_true false e some f = inr (occurs region i c true sound kind e, occurs region i c false sound kind f)

    by_false : (b : Bool) → excludes region i c false ≡ b → admits_none region ≡ false
        → IsDecision region i c (if b then Some true else (if excludes region i c true then Some false else None))
    by_false true e some = (IsInhabited-of_admits region sound some, all_but region i c false sound kind e)
    by_false false e some = by_true (excludes region i c true) refl some e

    by_none : (b : Bool) → admits_none region ≡ b
        → IsDecision region i c (if b then None else
        (if excludes region i c false then Some true else (if excludes region i c true then Some false else None)))
    by_none true e = inl (IsEmpty-of_admits_none region sound e)
    by_none false e = by_false (excludes region i c false) refl e

-- what is decided of an inhabited region is its one answer
decided_is : (region : Constraints) (i : ℕ) (c : Cut) (b : Bool) (v : Valuation) (o : Option Bool) → Admits region v
    → AreAll region i c b → IsDecision region i c o → o ≡ Some b
decided_is region i c b v None admits all (inl empty) = absurd (empty v admits)
decided_is region i c true v None admits all (inr both) =
    absurd (∥∥₁_elim both.1 (hlevel props) (λ found. true≢false (sym (all found.0 found.1) ∙ found.2)))
decided_is region i c false v None admits all (inr both) =
    absurd (∥∥₁_elim both.0 (hlevel props) (λ found. true≢false (sym found.2 ∙ all found.0 found.1)))
decided_is region i c b v (Some d) admits all is = ap Some (sym (is.1 v admits) ∙ all v admits)

some_decided : (region : Constraints) (i : ℕ) (c : Cut) (b : Bool) (o : Option Bool) → IsDecision region i c o
    → o ≡ Some b → AreAll region i c b
some_decided region i c b None is e = absurd (cc)
some_decided region i c b (Some d) is e = subst (λ a. AreAll region i c a) (same d b e) is.1
  where
    or_false : Option Bool → Bool
    or_false None = false
    or_false (Some a) = a

    same : (a d : Bool) → Some a ≡ Some d → a ≡ d
    same a d h = ap or_false h

-- what is decided is so of each admitted valuation
pub answer-of_decided_at : (region : Constraints) (i : ℕ) (c : Cut) (b : Bool) (v : Valuation) → IsRegion region
    → IsTrue (is_cut_at region.dims i c)
    → decided_at region i c ≡ Some b → Admits region v → answer c (v i) ≡ b
answer-of_decided_at region i c b v sound kind h admits =
    some_decided region i c b (decided_at region i c) (IsDecision-decided_at region i c sound kind) h v admits

-- narrowing keeps what is decided, as long as something is admitted
pub decided_at-narrowed : (region : Constraints) (n : Narrowing) (i : ℕ) (c : Cut) (b : Bool) → IsRegion region
    → IsTrue (is_cut_at region.dims n.dim n.cut)
    → IsTrue (is_cut_at region.dims i c) → IsInhabited (with_narrowing region n) → decided_at region i c ≡ Some b
    → decided_at (with_narrowing region n) i c ≡ Some b
decided_at-narrowed region n i c b sound kind cut_kind some h =
    let next = with_narrowing region n in
    let next_sound = IsRegion-with_narrowing region n sound kind in
    decided_is next i c b (point_at next) (decided_at next i c)
    (Admits-points next next_sound (admits-of_IsInhabited next next_sound some))
    (λ v admits. answer-of_decided_at region i c b v sound cut_kind h ((Admits-with_narrowing region n v).0 admits).0)
    (IsDecision-decided_at next i c next_sound cut_kind)

pub Admits-point_at : (region : Constraints) → IsRegion region → IsInhabited region → Admits region (point_at region)
Admits-point_at region sound some = Admits-points region sound (admits-of_IsInhabited region sound some)
