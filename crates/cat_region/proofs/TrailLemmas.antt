-- What is left of each dimension follows the trail: it grows and shrinks at its end.
use Rattle.std.proofs.Common.{◌≡◌, ℕ, zero, suc, ◌+◌, ◌-◌, ◌<◌, ◌≤◌, Bool, true, false, ◌||◌, List, [], ◌∷◌, ◌++◌}
use Rattle.std.proofs.Common.{length, Some, None, refl, sym, ap, ◌∙◌, subst, arith, append_assoc, if◌then◌else◌, ◌==◌}
use Rattle.std.proofs.Common.{IsTrue, length-append, map}
use Rattle.std.specs.Prelude.{slice_get, slice_set, take}
use Rattle.std.specs.List.{list_all, list_any}
use Rattle.std.specs.Int.{int_min, int_max}
use Rattle.std.specs.Prelude.{int_lt, ℤ, ◌-ℤ◌, pos}
use Rattle.std.proofs.lemmas.Int.{ints}
use Rattle.std.proofs.lemmas.Bool.Decides.{nat_tests}
use Rattle.std.proofs.lemmas.Option.{slice_get_within, get_or_from_slice_get}
use Rattle.std.proofs.lemmas.List.{take_more, take_more_set, append-nil, length-take-le, take_at}
use Rattle.std.proofs.lemmas.List.Folds.{list_all-append}
use Rattle.cat_region.proofs.Tests.{eq_of, eq_is}
use Rattle.cat_region.specs.declared.dim.Dim.{Dim}
use Rattle.cat_region.specs.declared.cut.Cut.{Cut}
use Rattle.cat_region.specs.declared.cut.Cut.TheVariants as cut
use Rattle.cat_region.specs.declared.extent.Extent.{Extent}
use Rattle.cat_region.specs.declared.extent.Extent.TheVariants.{Ranks, Cases}
use Rattle.cat_region.specs.declared.extent.Range.{Range}
use Rattle.cat_region.specs.declared.narrowing.Narrowing.{Narrowing}
use Rattle.cat_region.specs.declared.region.NarrowingStep.{NarrowingStep}
use Rattle.cat_region.specs.Regions.{is_dim, is_cut_at, last_narrowing}
use Rattle.cat_region.specs.inside.Trails.{narrowings_of, IsKept, AreKept, IsTrail, decided_by}
use Rattle.cat_region.specs.Extents.{start, after_one, after, narrowed, limit, is_under, narrowed_range, narrowed_set}
use Rattle.cat_region.specs.Extents.{is_none}
use Rattle.cat_region.specs.Decided.{lefts, admits_none, excludes, decided_at}

-- one narrowing more
pub after-more : (i : ℕ) (e : Extent) (ns : List Narrowing) (n : Narrowing)
    → after i e (ns ++ n ∷ []) ≡ after_one i (after i e ns) n
unfolding after
after-more i e [] n = refl
after-more i e (m ∷ ns) n = after-more i (after_one i e m) ns n

after_one-same : (i : ℕ) (e : Extent) (n : Narrowing) → n.dim ≡ i → after_one i e n ≡ narrowed e n.cut n.yes
after_one-same i e n h = ap (λ b. if b then narrowed e n.cut n.yes else e) (eq_is n.dim i h)

after_one-other : (i : ℕ) (e : Extent) (n : Narrowing) → n.dim < i → after_one i e n ≡ e
after_one-other i e n h = ap (λ b. if b then narrowed e n.cut n.yes else e) (apart n.dim i h)
  where
    apart : (a b : ℕ) → a < b → (a == b) ≡ false
    apart a b k = grind (arith, nat_tests)

after_one-before : (i : ℕ) (e : Extent) (n : Narrowing) → i < n.dim → after_one i e n ≡ e
after_one-before i e n h = ap (λ b. if b then narrowed e n.cut n.yes else e) (apart n.dim i h)
  where
    apart : (a b : ℕ) → b < a → (a == b) ≡ false
    apart a b k = grind (arith, nat_tests)

-- dimensions behind the narrowed one keep what is left of them
lefts-behind : (i : ℕ) (dims : List Dim) (ns : List Narrowing) (n : Narrowing) → n.dim < i
    → lefts i dims (ns ++ n ∷ []) ≡ lefts i dims ns
lefts-behind i [] ns n h = refl
lefts-behind i (d ∷ dims) ns n h =
    ap (λ e. e ∷ lefts (suc i) dims (ns ++ n ∷ []))
    (after-more i (start d) ns n ∙ after_one-other i (after i (start d) ns) n h)
    ∙ ap (λ es. after i (start d) ns ∷ es) (lefts-behind (suc i) dims ns n (omega arith))

pub same_extent : (a b : Extent) → Some a ≡ Some b → a ≡ b
same_extent a b e = cc

-- a narrowing changes its own dimension
pub lefts-more : (i : ℕ) (dims : List Dim) (ns : List Narrowing) (n : Narrowing) (k : ℕ) (e : Extent) → n.dim ≡ i + k
    → slice_get (lefts i dims ns) k ≡ Some e
    → lefts i dims (ns ++ n ∷ []) ≡ slice_set (lefts i dims ns) k (narrowed e n.cut n.yes)
lefts-more i [] ns n k e h at = absurd (cc)
lefts-more i (d ∷ dims) ns n zero e h at =
    ap (λ x. x ∷ lefts (suc i) dims (ns ++ n ∷ []))
    (after-more i (start d) ns n ∙ after_one-same i (after i (start d) ns) n (omega arith)
    ∙ ap (λ x. narrowed x n.cut n.yes) (same_extent (after i (start d) ns) e at))
    ∙ ap (λ es. narrowed e n.cut n.yes ∷ es) (lefts-behind (suc i) dims ns n (omega arith))
lefts-more i (d ∷ dims) ns n (suc k) e h at =
    ap (λ x. x ∷ lefts (suc i) dims (ns ++ n ∷ []))
    (after-more i (start d) ns n ∙ after_one-before i (after i (start d) ns) n (omega arith))
    ∙ ap (λ es. after i (start d) ns ∷ es) (lefts-more (suc i) dims ns n k e (omega arith) at)

pub length-lefts : (i : ℕ) (dims : List Dim) (ns : List Narrowing) → length (lefts i dims ns) ≡ length dims
length-lefts i [] ns = refl
length-lefts i (d ∷ dims) ns = ap suc (length-lefts (suc i) dims ns)

pub set-length : {X : Type 0} (xs : List X) (i : ℕ) (x : X) → length (slice_set xs i x) ≡ length xs
set-length [] i x = refl
set-length (y ∷ xs) zero x = refl
set-length (y ∷ xs) (suc i) x = ap suc (set-length xs i x)

range-none : (r : Range) (n : ℤ) (under : Bool) → int_lt r.high r.low ≡ true
    → int_lt (narrowed_range r n under).high (narrowed_range r n under).low ≡ true
range-none r n true h = upper r.low r.high (n -ℤ pos 1) h
  where
    upper : (l u m : ℤ) → int_lt u l ≡ true → int_lt (int_min u m) l ≡ true
    upper l u m h = grind (arith, ints)
range-none r n false h = lower r.low r.high n h
  where
    lower : (l u m : ℤ) → int_lt u l ≡ true → int_lt u (int_max l m) ≡ true
    lower l u m h = grind (arith, ints)

set-none : (c : Cut) (so : Bool) → (narrowed_set 0 c so == 0) ≡ true
set-none (cut.IsCase k) true = refl
set-none (cut.IsCase k) false = refl
set-none c so = refl

-- where nothing is left, nothing is left of a part
pub narrowed-none : (e : Extent) (c : Cut) (so : Bool) → is_none e ≡ true → is_none (narrowed e c so) ≡ true
narrowed-none (Ranks r) c so h = range-none r (limit c) (is_under c so) h
narrowed-none (Cases set) c so h = subst (λ (s : ℕ). (narrowed_set s c so == 0) ≡ true) (sym (eq_of set 0 h))
    (set-none c so)

pub some_none-set : (es : List Extent) (k : ℕ) (old new : Extent) → slice_get es k ≡ Some old
    → (is_none old ≡ true → is_none new ≡ true)
    → list_any is_none (slice_set es k new) ≡ (list_any is_none es || is_none new)
some_none-set [] k old new at keeps = absurd (cc)
some_none-set (e ∷ es) zero old new at keeps =
    by (is_none e) (is_none new) (list_any is_none es) (λ h. keeps (ap is_none (sym (same_extent e old at)) ∙ h))
  where
    by : (a b c : Bool) → (a ≡ true → b ≡ true) → (b || c) ≡ (a || c || b)
    by true true c f = refl
    by true false c f = absurd (cc (f refl))
    by false true true f = refl
    by false true false f = refl
    by false false true f = refl
    by false false false f = refl
some_none-set (e ∷ es) (suc k) old new at keeps =
    ap (λ b. is_none e || b) (some_none-set es k old new at keeps) ∙ by (is_none e) (list_any is_none es) (is_none new)
  where
    by : (a b c : Bool) → (a || (b || c)) ≡ (a || b || c)
    by true b c = refl
    by false b c = refl

-- what was set is set back
pub set-back : (es : List Extent) (k : ℕ) (old new : Extent) → slice_get es k ≡ Some old
    → slice_set (slice_set es k new) k old ≡ es
set-back [] k old new at = absurd (cc)
set-back (e ∷ es) zero old new at = ap (λ x. x ∷ es) (sym (same_extent e old at))
set-back (e ∷ es) (suc k) old new at = ap (λ xs. e ∷ xs) (set-back es k old new at)

narrowings-more : (ss : List NarrowingStep) (s : NarrowingStep)
    → narrowings_of (ss ++ s ∷ []) ≡ narrowings_of ss ++ s.narrowing ∷ []
narrowings-more [] s = refl
narrowings-more (t ∷ ss) s = ap (λ ns. t.narrowing ∷ ns) (narrowings-more ss s)

-- the steps are kept with one more, and with one less
kept-more : (dims : List Dim) (made : List Narrowing) (ss : List NarrowingStep) (s : NarrowingStep)
    → AreKept dims made ss
    → IsKept dims (made ++ narrowings_of ss) s
    → AreKept dims made (ss ++ s ∷ [])
kept-more dims made [] s kept last = (subst (λ (ns : List Narrowing). IsKept dims ns s) (append-nil made) last, tt)
kept-more dims made (t ∷ ss) s kept last = (
  kept.0,
  kept-more dims (made ++ t.narrowing ∷ []) ss s kept.1
      (subst (λ (ns : List Narrowing). IsKept dims ns s)
      (sym (append_assoc made (t.narrowing ∷ []) (narrowings_of ss))) last),
)

kept-less : (dims : List Dim) (made : List Narrowing) (ss : List NarrowingStep) (s : NarrowingStep)
    → AreKept dims made (ss ++ s ∷ [])
    → AreKept dims made ss × IsKept dims (made ++ narrowings_of ss) s
kept-less dims made [] s kept = (tt, subst (λ (ns : List Narrowing). IsKept dims ns s) (sym (append-nil made)) kept.0)
kept-less dims made (t ∷ ss) s kept =
    let rest = kept-less dims (made ++ t.narrowing ∷ []) ss s kept.1 in (
      (kept.0, rest.0),
      subst (λ (ns : List Narrowing). IsKept dims ns s)
          (append_assoc made (t.narrowing ∷ []) (narrowings_of ss)) rest.1,
    )

take-more : (ss : List NarrowingStep) (i : ℕ) (s : NarrowingStep) → slice_get ss i ≡ Some s
    → take (i + 1) ss ≡ take i ss ++ s ∷ []
take-more ss i s at = take_more ss i s (slice_get_within ss i s at)
    ∙ ap (λ x. take i ss ++ x ∷ []) (get_or_from_slice_get ss i s s at)

all-more : (dims : List Dim) (ns : List Narrowing) (n : Narrowing)
    → IsTrue (list_all (λ m. is_cut_at dims m.dim m.cut) ns) → IsTrue (is_cut_at dims n.dim n.cut)
    → IsTrue (list_all (λ m. is_cut_at dims m.dim m.cut) (ns ++ n ∷ []))
all-more dims ns n h k = grind (arith, list_all-append)

pub narrowings-made : (trail : List NarrowingStep) (made : ℕ) (s : NarrowingStep) → made < length trail
    → narrowings_of (take (made + 1) (slice_set trail made s)) ≡ narrowings_of (take made trail) ++ s.narrowing ∷ []
narrowings-made trail made s room = ap narrowings_of (take_more_set trail made s room)
    ∙ narrowings-more (take made trail) s

-- a step more
pub IsTrail-more : {dims : List Dim} {left : List Extent} {empty : Bool} {trail : List NarrowingStep} {made : ℕ}
    (s : NarrowingStep)
    → IsTrail dims left empty trail made
    → made < length trail → IsTrue (is_cut_at dims s.narrowing.dim s.narrowing.cut)
    → slice_get left s.narrowing.dim ≡ Some s.left → s.empty ≡ empty
    → IsTrail dims (slice_set left s.narrowing.dim (narrowed s.left s.narrowing.cut s.narrowing.yes))
    (empty || is_none (narrowed s.left s.narrowing.cut s.narrowing.yes)) (slice_set trail made s) (made + 1)
IsTrail-more {dims} {left} {empty} {trail} {made} s is room kind at none =
    let fits = is.fits in
    let new = narrowed s.left s.narrowing.cut s.narrowing.yes in
    let before = narrowings_of (take made trail) in
    let now = narrowings-made trail made s room in
    let here = ap (λ (es : List Extent). slice_get es s.narrowing.dim) (sym is.leaves) ∙ at in
    record {
      fits = omega (arith, set-length trail made s);
      sound = record {
        dims = is.sound.dims;
        narrowings = subst (λ (ns : List Narrowing). IsTrue (list_all (λ m. is_cut_at dims m.dim m.cut) ns)) (sym now)
            (all-more dims before s.narrowing is.sound.narrowings kind);
      };
      leaves = ap (λ (es : List Extent). slice_set es s.narrowing.dim new) is.leaves
          ∙ sym (lefts-more 0 dims before s.narrowing s.narrowing.dim s.left (omega arith) here)
          ∙ ap (lefts 0 dims) (sym now);
      none = ap (λ b. b || is_none new) is.none
          ∙ sym (some_none-set left s.narrowing.dim s.left new at
          (narrowed-none s.left s.narrowing.cut s.narrowing.yes));
      kept = subst (λ (ss : List NarrowingStep). AreKept dims [] ss) (sym (take_more_set trail made s room))
          (kept-more dims [] (take made trail) s is.kept
          (record { left = here; empty = none ∙ is.none ∙ ap (list_any is_none) is.leaves }));
    }

-- what the last step of some kept
last-kept : {dims : List Dim} {left : List Extent} {empty : Bool} {trail : List NarrowingStep} (made : ℕ)
    (s : NarrowingStep)
    → IsTrail dims left empty trail (made + 1) → slice_get trail made ≡ Some s
    → AreKept dims [] (take made trail) × IsKept dims (narrowings_of (take made trail)) s
last-kept {dims} {left} {empty} {trail} made s is at =
    kept-less dims [] (take made trail) s (subst (λ (ss : List NarrowingStep). AreKept dims [] ss)
    (take-more trail made s at)
    is.kept)

pub narrowings-last : (trail : List NarrowingStep) (made : ℕ) (s : NarrowingStep) → slice_get trail made ≡ Some s
    → narrowings_of (take (made + 1) trail) ≡ narrowings_of (take made trail) ++ s.narrowing ∷ []
narrowings-last trail made s at = ap narrowings_of (take-more trail made s at) ∙ narrowings-more (take made trail) s

all-less : (dims : List Dim) (ns : List Narrowing) (n : Narrowing)
    → IsTrue (list_all (λ m. is_cut_at dims m.dim m.cut) (ns ++ n ∷ []))
    → IsTrue (list_all (λ m. is_cut_at dims m.dim m.cut) ns)
all-less dims ns n h = grind (arith, list_all-append)

-- a step less
pub IsTrail-less : {dims : List Dim} {left : List Extent} {empty : Bool} {trail : List NarrowingStep} (made : ℕ)
    (s : NarrowingStep)
    → IsTrail dims left empty trail (made + 1) → slice_get trail made ≡ Some s
    → IsTrail dims (slice_set left s.narrowing.dim s.left) s.empty trail made
IsTrail-less {dims} {left} {empty} {trail} made s is at =
    let fits = is.fits in
    let new = narrowed s.left s.narrowing.cut s.narrowing.yes in
    let before = narrowings_of (take made trail) in
    let now = narrowings-last trail made s at in
    let last = last-kept made s is at in
    let back = is.leaves ∙ ap (lefts 0 dims) now
    ∙ lefts-more 0 dims before s.narrowing s.narrowing.dim s.left (omega arith) last.1.left in
    let leaves = ap (λ (es : List Extent). slice_set es s.narrowing.dim s.left) back
    ∙ set-back (lefts 0 dims before) s.narrowing.dim s.left new last.1.left in
    record {
      fits = omega arith;
      sound = record {
        dims = is.sound.dims;
        narrowings = all-less dims before s.narrowing
            (subst (λ (ns : List Narrowing). IsTrue (list_all (λ m. is_cut_at dims m.dim m.cut) ns)) now
            is.sound.narrowings);
      };
      leaves = leaves;
      none = last.1.empty ∙ ap (list_any is_none) (sym leaves);
      kept = last.0;
    }

-- the dimension of the last after_one is there
pub last-within : {dims : List Dim} {left : List Extent} {empty : Bool} {trail : List NarrowingStep} (made : ℕ)
    (s : NarrowingStep)
    → IsTrail dims left empty trail (made + 1) → slice_get trail made ≡ Some s → s.narrowing.dim < length left
last-within {dims} {left} {empty} {trail} made s is at =
    let last = last-kept made s is at in
    let within = slice_get_within (lefts 0 dims (narrowings_of (take made trail))) s.narrowing.dim s.left last.1.left in
    let same = length-lefts 0 dims (narrowings_of (take made trail)) in
    let now = ap length is.leaves ∙ length-lefts 0 dims (narrowings_of (take (made + 1) trail)) in
    omega arith

length-narrowings : (ss : List NarrowingStep) → length (narrowings_of ss) ≡ length ss
length-narrowings [] = refl
length-narrowings (t ∷ ss) = ap suc (length-narrowings ss)

-- how many narrowings stand in a trail
pub length-made : (trail : List NarrowingStep) (made : ℕ) → made ≤ length trail
    → length (narrowings_of (take made trail)) ≡ made
length-made trail made fits = length-narrowings (take made trail) ∙ length-take-le made trail fits

-- a narrowing that is undone leaves those before it
pub narrowings-undone : (ns : List Narrowing) (n : Narrowing) → take (length (ns ++ n ∷ []) - 1) (ns ++ n ∷ []) ≡ ns
narrowings-undone ns n = take_at ns (n ∷ []) (length (ns ++ n ∷ []) - 1) (omega (arith, length-append ns (n ∷ [])))

-- the narrowings without the last
pub narrowings-less : (trail : List NarrowingStep) (made : ℕ) (s : NarrowingStep) → slice_get trail made ≡ Some s
    → narrowings_of (take made trail) ≡ take (length (narrowings_of (take (made + 1) trail)) - 1)
    (narrowings_of (take (made + 1) trail))
narrowings-less trail made s at =
    sym (narrowings-undone (narrowings_of (take made trail)) s.narrowing)
    ∙ ap (λ (ns : List Narrowing). take (length ns - 1) ns) (sym (narrowings-last trail made s at))

pub last_narrowing-more : (ns : List Narrowing) (n : Narrowing)
    → last_narrowing (ns ++ n ∷ []) ≡ Some (n.dim, n.cut, n.yes)
last_narrowing-more [] n = refl
last_narrowing-more (m ∷ []) n = refl
last_narrowing-more (m ∷ k ∷ ns) n = last_narrowing-more (k ∷ ns) n

-- a cut's dimension is there
pub cut-within : (dims : List Dim) (i : ℕ) (c : Cut) → IsTrue (is_cut_at dims i c) → i < length dims
cut-within [] i c h = absurd (cc)
cut-within (d ∷ dims) zero c h = omega arith
cut-within (d ∷ dims) (suc i) c h = omega (arith, cut-within dims i c h)

-- what a region with one narrowing more admits nothing of
pub excludes-more : (dims : List Dim) (ns : List Narrowing) (room i : ℕ) (c : Cut) (so : Bool) (e : Extent)
    → slice_get (lefts 0 dims ns) i ≡ Some e
    → excludes (record { dims = dims; narrowings = ns; room = room }) i c
    so ≡ (list_any is_none (lefts 0 dims ns) || is_none (narrowed e c so))
unfolding admits_none
excludes-more dims ns room i c so e at =
    ap (list_any is_none) (lefts-more 0 dims ns (record { dim = i; cut = c; yes = so }) i e (omega arith) at)
    ∙ some_none-set (lefts 0 dims ns) i e (narrowed e c so) at (narrowed-none e c so)

-- something is kept of a cut's dimension
pub cut-kept : {dims : List Dim} {left : List Extent} {empty : Bool} {trail : List NarrowingStep} {made : ℕ}
    → IsTrail dims left empty trail made
    → (i : ℕ) (c : Cut) → IsTrue (is_cut_at dims i c) → i < length left
cut-kept {dims} {left} {empty} {trail} {made} is i c kind =
    let same = ap length is.leaves ∙ length-lefts 0 dims (narrowings_of (take made trail)) in
    let within = cut-within dims i c kind in
    omega arith

-- whether nothing is left of some dimension is whether nothing is admitted
pub none-kept : {dims : List Dim} {left : List Extent} {empty : Bool} {trail : List NarrowingStep} {made : ℕ} (room : ℕ)
    → IsTrail dims left empty trail made
    → empty ≡ admits_none (record { dims = dims; narrowings = narrowings_of (take made trail); room = room })
unfolding admits_none
none-kept room is = is.none ∙ ap (list_any is_none) is.leaves

pub excludes-kept : {dims : List Dim} {left : List Extent} {empty : Bool} {trail : List NarrowingStep}
    {made : ℕ} (room i : ℕ)
    (c : Cut) (so : Bool) (e : Extent)
    → IsTrail dims left empty trail made → slice_get left i ≡ Some e → empty ≡ false
    → is_none (narrowed e c so) ≡ excludes (record
    { dims = dims; narrowings = narrowings_of (take made trail); room = room }) i c so
excludes-kept {dims} {left} {empty} {trail} {made} room i c so e is at some =
    let ns = narrowings_of (take made trail) in
    ap (λ b. b || is_none (narrowed e c so)) (sym some ∙ is.none ∙ ap (list_any is_none) is.leaves)
    ∙ sym (excludes-more dims ns room i c so e (ap (λ (es : List Extent). slice_get es i) (sym is.leaves) ∙ at))

-- what is decided, by what is kept
pub decided-kept : {dims : List Dim} {left : List Extent} {empty : Bool} {trail : List NarrowingStep}
    {made : ℕ} (room i : ℕ)
    (c : Cut) (e : Extent)
    → IsTrail dims left empty trail made → slice_get left i ≡ Some e
    → decided_by empty e c ≡ decided_at (record
    { dims = dims; narrowings = narrowings_of (take made trail); room = room }) i c
unfolding decided_at
decided-kept {dims} {left} {empty} {trail} {made} room i c e is at = by empty refl
  where
    by : (b : Bool) → empty ≡ b → decided_by b e c
        ≡ (if admits_none (record { dims = dims; narrowings = narrowings_of (take made trail); room = room }) then None
        else (if excludes (record { dims = dims; narrowings = narrowings_of (take made trail); room = room }) i c false
        then Some true
        else (if excludes (record { dims = dims; narrowings = narrowings_of (take made trail); room = room }) i c true
        then Some false else None)))
    by true h = rw (sym (none-kept room is) ∙ h) refl
    by false h = rw (
      sym (none-kept room is) ∙ h,
      sym (excludes-kept room i c false e is at h),
      sym
          (excludes-kept room i c true e is at h),
    ) refl

-- before any narrowing all is left
lefts-none : (i : ℕ) (dims : List Dim) → map start dims ≡ lefts i dims []
unfolding after
lefts-none i [] = refl
lefts-none i (d ∷ dims) = ap (λ es. start d ∷ es) (lefts-none (suc i) dims)

pub IsTrail-none : (dims : List Dim) (left : List Extent) (empty : Bool) (trail : List NarrowingStep)
    → IsTrue (list_all is_dim dims) → left ≡ map start dims
    → empty ≡ list_any is_none left → IsTrail dims left empty trail 0
IsTrail-none dims left empty trail kinds is none =
    record {
      fits = omega arith;
      sound = record {
        dims = kinds;
        narrowings =
            subst (λ (ss : List NarrowingStep). IsTrue (list_all (λ m. is_cut_at dims m.dim m.cut) (narrowings_of ss)))
            (take-none trail) refl;
      };
      leaves = is ∙ lefts-none 0 dims ∙ ap (λ (ss : List NarrowingStep). lefts 0 dims (narrowings_of ss))
          (take-none trail);
      none = none;
      kept = subst (λ (ss : List NarrowingStep). AreKept dims [] ss) (take-none trail) tt;
    }
  where
    take-none : (ss : List NarrowingStep) → [] ≡ take 0 ss
    take-none [] = refl
    take-none (s ∷ ss) = refl
