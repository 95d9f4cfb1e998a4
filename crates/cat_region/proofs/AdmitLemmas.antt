-- A region admits a valuation where what is left of each dimension has its value.
use Rattle.std.proofs.Common.{◌≡◌, ◌↔◌, ℕ, zero, suc, ◌+◌, ◌<◌, ◌==◌, List, [], ◌∷◌, length, Option, Some, None}
use Rattle.std.proofs.Common.{Bool, true, false, IsTrue, refl, sym, ap, ◌∙◌, subst, arith, if◌then◌else◌, true≢false}
use Rattle.std.specs.Prelude.{◌&&◌, ◌||◌, slice_get}
use Rattle.std.specs.List.{list_all, list_any}
use Rattle.std.proofs.Math.Bool.{and_assoc}
use Rattle.std.proofs.lemmas.Option.{slice_get_within}
use Rattle.cat_region.specs.declared.dim.Dim.{Dim}
use Rattle.cat_region.specs.declared.dim.Dim.TheVariants as dim
use Rattle.cat_region.specs.declared.cut.Cut.{Cut}
use Rattle.cat_region.specs.declared.point.Point.{Point}
use Rattle.cat_region.specs.declared.extent.Extent.{Extent}
use Rattle.cat_region.specs.declared.extent.Extent.TheVariants.{Ranks, Cases}
use Rattle.cat_region.specs.declared.narrowing.Narrowing.{Narrowing}
use Rattle.cat_region.specs.Points.{is_point, is_cut}
use Rattle.cat_region.specs.Regions.{Constraints, is_dim, is_cut_at, is_cut_of, IsRegion, Valuation}
use Rattle.cat_region.specs.Regions.{is_point_at, is_point_of, agrees, all_agree, is_admitted, Admits, IsEmpty}
use Rattle.cat_region.specs.Extents.{start, narrowed, after_one, after, is_none}
use Rattle.cat_region.specs.Decided.{lefts, admits_none}
use Rattle.cat_region.specs.Chosen.{point_in, point_of, point_at}
use Rattle.cat_region.proofs.Tests.{eq_of, eq_is, and-parts, or-parts, and-true}
use Rattle.cat_region.proofs.ExtentLemmas.{is_in, is_kind, is_in-narrowed}
use Rattle.cat_region.specs.inside.Parts.{IsPart}
use Rattle.cat_region.proofs.PartLemmas.{is_in-start, is_in-none, IsPart-start, IsPart-narrowed}
use Rattle.cat_region.proofs.PointLemmas.{point_in-part}
use Rattle.cat_region.proofs.TrailLemmas.{cut-within}

-- all cuts of some narrowings are of the kinds of their dimensions
abbrev pub AreCuts : List Dim → List Narrowing → Type 0
AreCuts dims ns = IsTrue (list_all (λ n. is_cut_at dims n.dim n.cut) ns)

-- dimension i is d
abbrev pub IsAt : List Dim → ℕ → Dim → Type 0
IsAt dims i d = slice_get dims i ≡ Some d

pub cut_of : (dims : List Dim) (i : ℕ) (d : Dim) (n : Narrowing) → IsAt dims i d → (n.dim == i) ≡ true
    → IsTrue (is_cut_at dims n.dim n.cut) → IsTrue (is_cut d n.cut)
cut_of dims i d n at same kind =
    subst (λ (o : Option Dim). IsTrue (is_cut_of o n.cut)) (ap (slice_get dims) (eq_of n.dim i same) ∙ at) kind

is_kind-narrowed : (d : Dim) (e : Extent) (c : Cut) (so : Bool) → is_kind d (narrowed e c so) ≡ is_kind d e
is_kind-narrowed (dim.Cases n) (Ranks r) c so = refl
is_kind-narrowed (dim.Cases n) (Cases set) c so = refl
is_kind-narrowed d (Ranks r) c so = refl
is_kind-narrowed d (Cases set) c so = refl

is_kind-after_one : (d : Dim) (i : ℕ) (e : Extent) (n : Narrowing) → is_kind d (after_one i e n) ≡ is_kind d e
is_kind-after_one d i e n = by (n.dim == i)
  where
    by : (b : Bool) → is_kind d (if b then narrowed e n.cut n.yes else e) ≡ is_kind d e
    by true = is_kind-narrowed d e n.cut n.yes
    by false = refl

is_kind-start : (d : Dim) → IsTrue (is_kind d (start d))
unfolding start
is_kind-start dim.Whole = refl
is_kind-start dim.Money = refl
is_kind-start dim.Day = refl
is_kind-start dim.Decimal = refl
is_kind-start dim.Truth = refl
is_kind-start (dim.Cases n) = refl

is_in-after_one : (dims : List Dim) (i : ℕ) (d : Dim) (x : Point) (e : Extent) (n : Narrowing) → IsAt dims i d
    → IsTrue (is_dim d) → IsTrue (is_point d x)
    → IsTrue (is_kind d e) → IsTrue (is_cut_at dims n.dim n.cut)
    → is_in (after_one i e n) x ≡ (is_in e x && (if n.dim == i then agrees x n else true))
is_in-after_one dims i d x e n at few of kind is_cut = by (n.dim == i) refl
  where
    by : (b : Bool) → (n.dim == i) ≡ b → is_in (if b then narrowed e n.cut n.yes else e)
        x ≡ (is_in e x && (if b then agrees x n else true))
    by true h = is_in-narrowed d e n.cut n.yes x few kind (cut_of dims i d n at h is_cut) of
    by false h = and-true (is_in e x)

-- what narrowings leave is what agrees with them
is_in-after : (dims : List Dim) (i : ℕ) (d : Dim) (x : Point) (e : Extent) (ns : List Narrowing) → IsAt dims i d
    → IsTrue (is_dim d) → IsTrue (is_point d x)
    → IsTrue (is_kind d e) → AreCuts dims ns → is_in (after i e ns) x ≡ (is_in e x && all_agree i x ns)
unfolding after
is_in-after dims i d x e [] at few of kind cuts = and-true (is_in e x)
is_in-after dims i d x e (n ∷ ns) at few of kind cuts =
    let both = and-parts (is_cut_at dims n.dim n.cut) (list_all (λ m. is_cut_at dims m.dim m.cut) ns) cuts in
    is_in-after dims i d x (after_one i e n) ns at few of (is_kind-after_one d i e n ∙ kind) both.1
    ∙ ap (λ b. b && all_agree i x ns) (is_in-after_one dims i d x e n at few of kind both.0)
    ∙ and_assoc (is_in e x) (if n.dim == i then agrees x n else true) (all_agree i x ns)

-- what narrowings leave of a dimension is part of it
pub IsPart-after : (dims : List Dim) (i : ℕ) (d : Dim) (e : Extent) (ns : List Narrowing) → IsAt dims i d → IsPart d e
    → AreCuts dims ns → IsPart d (after i e ns)
unfolding after
IsPart-after dims i d e [] at part cuts = part
IsPart-after dims i d e (n ∷ ns) at part cuts =
    let both = and-parts (is_cut_at dims n.dim n.cut) (list_all (λ m. is_cut_at dims m.dim m.cut) ns) cuts in
    IsPart-after dims i d (after_one i e n) ns at (by (n.dim == i) refl both.0) both.1
  where
    by : (b : Bool) → (n.dim == i) ≡ b → IsTrue (is_cut_at dims n.dim n.cut)
        → IsPart d (if b then narrowed e n.cut n.yes else e)
    by true h is_cut = IsPart-narrowed d e n.cut n.yes (cut_of dims i d n at h is_cut) part
    by false h is_cut = part

pub few_of : (dims : List Dim) (i : ℕ) (d : Dim) → IsTrue (list_all is_dim dims) → IsAt dims i d → IsTrue (is_dim d)
few_of [] i d few at = absurd (cc)
few_of (c ∷ dims) zero d few at = subst (λ (o : Option Dim). IsTrue (few_in o)) at
    (and-parts (is_dim c) (list_all is_dim dims) few).0
  where
    few_in : Option Dim → Bool
    few_in None = true
    few_in (Some e) = is_dim e
few_of (c ∷ dims) (suc i) d few at = few_of dims i d (and-parts (is_dim c) (list_all is_dim dims) few).1 at

-- a value of a dimension is admitted where it is left
pub is_admitted-left : (region : Constraints) (i : ℕ) (d : Dim) (x : Point) → IsRegion region → IsAt region.dims i d
    → IsTrue (is_point d x)
    → is_admitted region i x ≡ is_in (after i (start d) region.narrowings) x
is_admitted-left region i d x sound at of =
    ap (λ (o : Option Dim). is_point_of o x && all_agree i x region.narrowings) at
    ∙ ap (λ b. b && all_agree i x region.narrowings) (of ∙ sym (is_in-start d x of))
    ∙ sym (is_in-after region.dims i d x (start d) region.narrowings at (few_of region.dims i d sound.dims at) of
    (is_kind-start d) sound.narrowings)

-- a valuation that agrees with some narrowings agrees with those of each dimension
agrees-dimension : (v : Valuation) (i : ℕ) (ns : List Narrowing) → IsTrue (list_all (λ n. agrees (v n.dim) n) ns)
    → IsTrue (all_agree i (v i) ns)
agrees-dimension v i [] h = refl
agrees-dimension v i (n ∷ ns) h =
    let both = and-parts (agrees (v n.dim) n) (list_all (λ m. agrees (v m.dim) m) ns) h in
    rw (by (n.dim == i) refl both.0, agrees-dimension v i ns both.1) refl
  where
    by : (b : Bool) → (n.dim == i) ≡ b → IsTrue (agrees (v n.dim) n) → (if b then agrees (v i) n else true) ≡ true
    by true e k = subst (λ (j : ℕ). agrees (v j) n ≡ true) (eq_of n.dim i e) k
    by false e k = refl

agrees-narrowings : (dims : List Dim) (v : Valuation) (ns : List Narrowing) → AreCuts dims ns
    → ((i : ℕ) → i < length dims → IsTrue (all_agree i (v i) ns))
    → IsTrue (list_all (λ n. agrees (v n.dim) n) ns)
agrees-narrowings dims v [] cuts h = refl
agrees-narrowings dims v (n ∷ ns) cuts h =
    let both = and-parts (is_cut_at dims n.dim n.cut) (list_all (λ m. is_cut_at dims m.dim m.cut) ns) cuts in
    rw (
      first (n.dim == n.dim) (eq_is n.dim n.dim refl) (parts n.dim (cut-within dims n.dim n.cut both.0)).0,
      agrees-narrowings dims v ns both.1 (λ i within. (parts i within).1),
    ) refl
  where
    parts : (i : ℕ) → i < length dims → ((if n.dim == i then agrees (v i) n else true) ≡ true)
        × (all_agree i (v i) ns ≡ true)
    parts i within = and-parts (if n.dim == i then agrees (v i) n else true) (all_agree i (v i) ns) (h i within)

    first : (b : Bool) → b ≡ true → (if b then agrees (v n.dim) n else true) ≡ true → agrees (v n.dim) n ≡ true
    first true e k = k
    first false e k = absurd (true≢false (sym e))

-- a valuation is admitted where each of its values is
pub Admits-by_dimensions : (region : Constraints) (v : Valuation) → IsRegion region
    → Admits region v ↔ ((i : ℕ) → i < length region.dims → IsTrue (is_admitted region i (v i)))
Admits-by_dimensions region v sound = (
  λ admits i within. rw (admits.valuation i within, agrees-dimension v i region.narrowings admits.agreeing) refl,
  λ each. record {
    valuation = λ i within. (and-parts (is_point_at region.dims i (v i)) (all_agree i (v i) region.narrowings)
        (each i within)).0;
    agreeing = agrees-narrowings region.dims v region.narrowings sound.narrowings
        (λ i within. (and-parts (is_point_at region.dims i (v i)) (all_agree i (v i) region.narrowings)
        (each i within)).1);
  },
)

-- a dimension of which nothing is left
data IsNone (k : ℕ) (dims : List Dim) (ns : List Narrowing) : Type 0 where
  at_dimension : (j : ℕ) (d : Dim) → IsAt dims j d → is_none (after (k + j) (start d) ns) ≡ true → IsNone k dims ns

none_of : (k : ℕ) (dims : List Dim) (ns : List Narrowing) → list_any is_none (lefts k dims ns) ≡ true → IsNone k dims ns
none_of k [] ns h = absurd (true≢false (sym h))
none_of k (d ∷ dims) ns h = by (is_none (after k (start d) ns)) refl h (none_of (suc k) dims ns)
  where
    further : IsNone (suc k) dims ns → IsNone k (d ∷ dims) ns
    further (at_dimension j c at none) = at_dimension (suc j) c at
        (ap (λ (i : ℕ). is_none (after i (start c) ns)) (omega arith) ∙ none)

    by : (b : Bool) → is_none (after k (start d) ns) ≡ b → (b || list_any is_none (lefts (suc k) dims ns)) ≡ true
        → (list_any is_none (lefts (suc k) dims ns) ≡ true → IsNone (suc k) dims ns) → IsNone k (d ∷ dims) ns
    by true e g rest = at_dimension 0 d refl (ap (λ (i : ℕ). is_none (after i (start d) ns)) (omega arith) ∙ e)
    by false e g rest = further (rest g)

some_of : (k : ℕ) (dims : List Dim) (ns : List Narrowing) → list_any is_none (lefts k dims ns) ≡ false
    → (j : ℕ) (d : Dim) → IsAt dims j d
    → is_none (after (k + j) (start d) ns) ≡ false
some_of k [] ns h j d at = absurd (cc)
some_of k (c ∷ dims) ns h zero d at =
    ap none_in (sym at) ∙ ap (λ (i : ℕ). is_none (after i (start c) ns)) (omega arith)
    ∙ (or-parts (is_none (after k (start c) ns)) (list_any is_none (lefts (suc k) dims ns)) h).0
  where
    none_in : Option Dim → Bool
    none_in None = true
    none_in (Some e) = is_none (after (k + 0) (start e) ns)
some_of k (c ∷ dims) ns h (suc j) d at =
    ap (λ (i : ℕ). is_none (after i (start d) ns)) (omega arith)
    ∙ some_of (suc k) dims ns (or-parts (is_none (after k (start c) ns)) (list_any is_none (lefts (suc k) dims ns)) h).1
    j d at

-- what is at an index is there
pub at_index : (dims : List Dim) (i : ℕ) → i < length dims → (d : Dim) × IsAt dims i d
at_index [] i h = absurd (omega arith)
at_index (c ∷ dims) zero h = (c, refl)
at_index (c ∷ dims) (suc i) h = at_index dims i (omega arith)

pub is_point-admitted : (region : Constraints) (i : ℕ) (d : Dim) (x : Point) → IsAt region.dims i d
    → IsTrue (is_admitted region i x) → IsTrue (is_point d x)
is_point-admitted region i d x at h =
    ap (λ (o : Option Dim). is_point_of o x) (sym at)
    ∙ (and-parts (is_point_at region.dims i x) (all_agree i x region.narrowings) h).0

-- a region that admits nothing is empty
pub IsEmpty-of_admits_none : (region : Constraints) → IsRegion region → admits_none region ≡ true → IsEmpty region
unfolding admits_none
IsEmpty-of_admits_none region sound h v admits = by (none_of 0 region.dims region.narrowings h)
  where
    by : IsNone 0 region.dims region.narrowings → ⊥
    by (at_dimension j d at none) =
        let admitted = (Admits-by_dimensions region v sound).0 admits j (slice_get_within region.dims j d at) in
        let left = is_admitted-left region j d (v j) sound at (is_point-admitted region j d (v j) at admitted) in
        let nothing = is_in-none (after j (start d) region.narrowings) (v j)
        (ap (λ (i : ℕ). is_none (after i (start d) region.narrowings)) (omega arith) ∙ none) in
        true≢false (sym admitted ∙ left ∙ nothing)

-- something is left of each dimension of a region that admits something
pub some_left : (region : Constraints) → admits_none region ≡ false → (i : ℕ) (d : Dim) → IsAt region.dims i d
    → is_none (after i (start d) region.narrowings) ≡ false
unfolding admits_none
some_left region h i d at =
    ap (λ (k : ℕ). is_none (after k (start d) region.narrowings)) (omega arith)
    ∙ some_of 0 region.dims region.narrowings h i d at

pub point_at-left : (region : Constraints) (i : ℕ) (d : Dim) → IsAt region.dims i d
    → point_at region i ≡ point_in d (after i (start d) region.narrowings)
unfolding point_at
point_at-left region i d at = ap (λ (o : Option Dim). point_of i o region) at

-- where a region admits something, it admits its points
pub is_admitted-point_at : (region : Constraints) → IsRegion region → admits_none region ≡ false → (i : ℕ)
    → i < length region.dims
    → IsTrue (is_admitted region i (point_at region i))
is_admitted-point_at region sound h i within =
    let found = at_index region.dims i within in
    let d = found.0 in
    let at = found.1 in
    let part = IsPart-after region.dims i d (start d) region.narrowings at (IsPart-start d) sound.narrowings in
    let good = point_in-part d (after i (start d) region.narrowings) (few_of region.dims i d sound.dims at) part
    (some_left region h i d at) in
    ap (is_admitted region i) (point_at-left region i d at)
    ∙ is_admitted-left region i d (point_in d (after i (start d) region.narrowings)) sound at good.0 ∙ good.1

pub Admits-points : (region : Constraints) → IsRegion region → admits_none region ≡ false
    → Admits region (point_at region)
Admits-points region sound h = (Admits-by_dimensions region (point_at region) sound).1
    (is_admitted-point_at region sound h)
