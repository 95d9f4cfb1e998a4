-- Samples of a term: values that the cuts of a target tell apart, of which each inhabited region has one.
use Rattle.std.proofs.Common.{◌≡◌, inl, inr, ℕ, zero, suc, ◌+◌, ◌<◌, ◌≤◌, ◌==◌, nat_eq, Bool, true, false, not, IsTrue}
use Rattle.std.proofs.Common.{if◌then◌else◌, ℤ, pos, List, [], ◌∷◌, ◌++◌, length, refl, sym}
use Rattle.std.proofs.Common.{ap, ◌∙◌, subst, true≢false, arith}
use Rattle.std.specs.Prelude.{◌&&◌, int_lt}
use Rattle.std.proofs.Math.Bool.{beq, and_assoc}
use Rattle.std.proofs.lemmas.Int.{ints}
use Rattle.std.proofs.lemmas.Bool.Decides.{nat_tests}
use Rattle.cat_region.specs.declared.dim.Dim.{Dim}
use Rattle.cat_region.specs.declared.dim.Dim.TheVariants as dim
use Rattle.cat_region.specs.declared.cut.Cut.{Cut}
use Rattle.cat_region.specs.declared.cut.Cut.TheVariants as cut
use Rattle.cat_region.specs.declared.point.Point.{Point}
use Rattle.cat_region.specs.declared.point.Point.TheVariants as point
use Rattle.cat_region.specs.declared.narrowing.Narrowing.{Narrowing}
use Rattle.cat_region.specs.declared.extent.Extent.{Extent}
use Rattle.cat_region.specs.declared.extent.Extent.TheVariants.{Ranks, Cases}
use Rattle.cat_region.specs.Extents.{start, after, after_one, limit, is_under, narrowed, narrowed_range, is_none}
use Rattle.cat_region.specs.Points.{answer, is_point, is_cut}
use Rattle.cat_region.specs.Regions.{agrees, all_agree}
use Rattle.cat_scope.specs.Names.{IsOneOf, AllHave}
use Rattle.cat_region.proofs.Exported.{lies, lies-narrowed}
use Rattle.cat_search.specs.Cells.{parted}

-- ---- counting

abbrev pub how_many : {A : Type 0} → (A → Bool) → List A → ℕ
how_many p [] = 0
how_many p (x ∷ xs) = (if p x then 1 else 0) + how_many p xs

pub at_most_all : {A : Type 0} (p : A → Bool) (xs : List A) → how_many p xs ≤ length xs
at_most_all p [] = omega arith
at_most_all p (x ∷ xs) = by (p x) (at_most_all p xs)
  where
    by : (b : Bool) → how_many p xs ≤ length xs → (if b then 1 else 0) + how_many p xs ≤ suc (length xs)
    by true rest = omega (arith, rest)
    by false rest = omega (arith, rest)

pub alike : {A : Type 0} (p q : A → Bool) (xs : List A) → ((x : A) → p x ≡ q x) → how_many p xs ≡ how_many q xs
alike p q [] same = refl
alike p q (x ∷ xs) same =
    ap (λ b. (if b then 1 else 0) + how_many p xs) (same x) ∙ ap (λ k. (if q x then 1 else 0) + k) (alike p q xs same)

pub some_one : {A : Type 0} (p : A → Bool) (x : A) (xs : List A) → IsOneOf x xs → p x ≡ true → 1 ≤ how_many p xs
some_one p x [] among is = absurd (among)
some_one p x (y ∷ ys) (inl same) is =
    let e : p y ≡ true = subst (λ z. p z ≡ true) same is in
    subst (λ b. 1 ≤ (if b then 1 else 0) + how_many p ys) (sym e) (omega arith)
some_one p x (y ∷ ys) (inr among) is =
    let rest = some_one p x ys among is in by (p y) rest
  where
    by : (b : Bool) → 1 ≤ how_many p ys → 1 ≤ (if b then 1 else 0) + how_many p ys
    by true h = omega arith
    by false h = omega (arith, h)

both_one : (a b : Bool) (on off all : ℕ) → on + off ≡ all
    → (if a && beq b true then 1 else 0) + on + ((if a && beq b false then 1 else 0) + off)
    ≡ (if a then 1 else 0) + all
both_one true true on off all h = omega (arith, h)
both_one true false on off all h = omega (arith, h)
both_one false b on off all h = omega (arith, h)

-- a test parts what passes another
pub both_parts : {A : Type 0} (p q : A → Bool) (xs : List A)
    → how_many (λ x. p x && beq (q x) true) xs + how_many (λ x. p x && beq (q x) false) xs ≡ how_many p xs
both_parts p q [] = refl
both_parts p q (x ∷ xs) = both_one (p x) (q x) _ _ _ (both_parts p q xs)

-- ---- what narrowings leave of ranks

abbrev in_extent : ℤ → Extent → Bool
in_extent x (Ranks r) = lies x r
in_extent x (Cases set) = false

after-more : (i : ℕ) (e : Extent) (ns : List Narrowing) (n : Narrowing)
    → after i e (ns ++ n ∷ []) ≡ after_one i (after i e ns) n
unfolding after
after-more i e [] n = refl
after-more i e (m ∷ ns) n = after-more i (after_one i e m) ns n

agree-more : (i : ℕ) (x : Point) (ns : List Narrowing) (n : Narrowing)
    → all_agree i x (ns ++ n ∷ []) ≡ (all_agree i x ns && (if n.dim == i then agrees x n else true))
agree-more i x [] n = by (if n.dim == i then agrees x n else true)
  where
    by : (b : Bool) → (b && true) ≡ (true && b)
    by true = refl
    by false = refl
agree-more i x (m ∷ ns) n =
    ap (λ b. (if m.dim == i then agrees x m else true) && b) (agree-more i x ns n)
    ∙ sym (and_assoc (if m.dim == i then agrees x m else true) (all_agree i x ns)
    (if n.dim == i then agrees x n else true))

-- ---- samples

-- a rank, or a case
pub data Sample : Type 0 where
  Rank : ℤ → Sample
  Case : ℕ → Sample

-- whether a sample is left of dimension i
abbrev pub is_left : Dim → ℕ → List Narrowing → Sample → Bool
is_left d i ns (Rank x) = in_extent x (after i (start d) ns)
is_left d i ns (Case k) = all_agree i (point.Case k) ns

-- what a cut answers for a sample
abbrev pub says : Sample → Cut → Bool
says (Rank x) cut.IsTrue = not (int_lt x (pos 1))
says (Rank x) c = int_lt x (limit c)
says (Case k) c = answer c (point.Case k)

turned : (a so : Bool) → beq a (not so) ≡ beq (not a) so
turned true true = refl
turned true false = refl
turned false true = refl
turned false false = refl

in_narrowed : (x : ℤ) (e : Extent) (c : Cut) (so : Bool)
    → in_extent x (narrowed e c so) ≡ (in_extent x e && beq (says (Rank x) c) so)
in_narrowed x (Cases set) c so = refl
in_narrowed x (Ranks r) (cut.Below s) so = lies-narrowed x (limit (cut.Below s)) r so
in_narrowed x (Ranks r) (cut.AtMost s) so = lies-narrowed x (limit (cut.AtMost s)) r so
in_narrowed x (Ranks r) cut.IsTrue so =
    lies-narrowed x (pos 1) r (not so) ∙ ap (λ b. lies x r && b) (turned (int_lt x (pos 1)) so)
in_narrowed x (Ranks r) (cut.IsCase k) so = lies-narrowed x (limit (cut.IsCase k)) r so

left_more : (d : Dim) (i : ℕ) (ns : List Narrowing) (n : Narrowing) → (n.dim == i) ≡ true → (s : Sample)
    → is_left d i (ns ++ n ∷ []) s ≡ (is_left d i ns s && beq (says s n.cut) n.yes)
left_more d i ns n at (Rank x) =
    ap (in_extent x) (after-more i (start d) ns n
    ∙ ap (λ b. if b then narrowed (after i (start d) ns) n.cut n.yes else after i (start d) ns) at)
    ∙ in_narrowed x (after i (start d) ns) n.cut n.yes
left_more d i ns n at (Case k) =
    agree-more i (point.Case k) ns n
    ∙ ap (λ b. all_agree i (point.Case k) ns && (if b then agrees (point.Case k) n else true)) at

left_other : (d : Dim) (i : ℕ) (ns : List Narrowing) (n : Narrowing) → (n.dim == i) ≡ false → (s : Sample)
    → is_left d i (ns ++ n ∷ []) s ≡ is_left d i ns s
left_other d i ns n off (Rank x) =
    ap (in_extent x) (after-more i (start d) ns n
    ∙ ap (λ b. if b then narrowed (after i (start d) ns) n.cut n.yes else after i (start d) ns) off)
left_other d i ns n off (Case k) =
    agree-more i (point.Case k) ns n
    ∙ ap (λ b. all_agree i (point.Case k) ns && (if b then agrees (point.Case k) n else true)) off
    ∙ whole (all_agree i (point.Case k) ns)
  where
    whole : (b : Bool) → (b && true) ≡ b
    whole true = refl
    whole false = refl

abbrev low_in : Extent → ℤ
low_in (Ranks r) = r.low
low_in (Cases set) = pos 0

abbrev cases_below : ℕ → List Sample
cases_below zero = []
cases_below (suc n) = Case n ∷ cases_below n

abbrev ranks_of : List Cut → List Sample
ranks_of [] = []
ranks_of (c ∷ cs) = Rank (limit c) ∷ ranks_of cs

-- the samples of a dimension with these cuts: each case, the two truth values, and else the least rank and the first
-- rank from each cut on
abbrev pub samples : Dim → List Cut → List Sample
samples (dim.Cases n) cs = cases_below n
samples dim.Truth cs = Rank (pos 0) ∷ Rank (pos 1) ∷ []
samples d cs = Rank (low_in (start d)) ∷ ranks_of cs

-- how many samples are left, where there are cuts
abbrev pub weight : Dim → List Cut → ℕ → List Narrowing → ℕ
weight d [] i ns = 1
weight d (c ∷ cs) i ns = how_many (is_left d i ns) (samples d (c ∷ cs))

as_many_ranks : (cs : List Cut) → length (ranks_of cs) ≡ length cs
as_many_ranks [] = refl
as_many_ranks (c ∷ cs) = ap suc (as_many_ranks cs)

as_many_cases : (n : ℕ) → length (cases_below n) ≡ n
as_many_cases zero = refl
as_many_cases (suc n) = ap suc (as_many_cases n)

number : (d : Dim) (c : Cut) (cs : List Cut) (i : ℕ) (ns : List Narrowing)
    → how_many (is_left d i ns) (Rank (low_in (start d)) ∷ ranks_of (c ∷ cs)) ≤ suc (length cs) + 1
number d c cs i ns =
    let all = at_most_all (is_left d i ns) (Rank (low_in (start d)) ∷ ranks_of (c ∷ cs)) in
    let counted : length (ranks_of cs) ≡ length cs = as_many_ranks cs in
    omega (arith, all, counted)

pub weight_most : (d : Dim) (cs : List Cut) (i : ℕ) (ns : List Narrowing) → weight d cs i ns ≤ parted d (length cs)
weight_most d [] i ns = omega arith
weight_most dim.Whole (c ∷ cs) i ns = number dim.Whole c cs i ns
weight_most dim.Money (c ∷ cs) i ns = number dim.Money c cs i ns
weight_most dim.Day (c ∷ cs) i ns = number dim.Day c cs i ns
weight_most dim.Decimal (c ∷ cs) i ns = number dim.Decimal c cs i ns
weight_most dim.Truth (c ∷ cs) i ns = at_most_all (is_left dim.Truth i ns) (Rank (pos 0) ∷ Rank (pos 1) ∷ [])
weight_most (dim.Cases n) (c ∷ cs) i ns =
    let all = at_most_all (is_left (dim.Cases n) i ns) (cases_below n) in
    let counted : length (cases_below n) ≡ n = as_many_cases n in
    omega (arith, all, counted)

-- ---- a split parts the samples of its term, and leaves those of the others

pub weight_split : (d : Dim) (c : Cut) (cs : List Cut) (i : ℕ) (ns : List Narrowing) (on off : Narrowing)
    → (on.dim == i) ≡ true → off.dim ≡ on.dim → off.cut ≡ on.cut → on.yes ≡ true → off.yes ≡ false
    → weight d (c ∷ cs) i (ns ++ on ∷ []) + weight d (c ∷ cs) i (ns ++ off ∷ []) ≡ weight d (c ∷ cs) i ns
weight_split d c cs i ns on off at dims cuts yes_is no_is =
    ap (λ k. k + weight d (c ∷ cs) i (ns ++ off ∷ [])) (alike (is_left d i (ns ++ on ∷ []))
    (λ s. is_left d i ns s && beq (says s on.cut) true) (samples d (c ∷ cs))
    (λ s. left_more d i ns on at s ∙ ap (λ b. is_left d i ns s && beq (says s on.cut) b) yes_is))
    ∙ ap (λ k. how_many (λ s. is_left d i ns s && beq (says s on.cut) true) (samples d (c ∷ cs)) + k)
    (alike (is_left d i (ns ++ off ∷ [])) (λ s. is_left d i ns s && beq (says s on.cut) false) (samples d (c ∷ cs))
    (λ s. left_more d i ns off (ap (λ k. k == i) dims ∙ at) s
    ∙ ap (λ b. is_left d i ns s && beq (says s off.cut) b) no_is
    ∙ ap (λ q. is_left d i ns s && beq (says s q) false) cuts))
    ∙ both_parts (is_left d i ns) (λ s. says s on.cut) (samples d (c ∷ cs))

pub weight_other : (d : Dim) (cs : List Cut) (i : ℕ) (ns : List Narrowing) (n : Narrowing) → (n.dim == i) ≡ false
    → weight d cs i (ns ++ n ∷ []) ≡ weight d cs i ns
weight_other d [] i ns n off = refl
weight_other d (c ∷ cs) i ns n off =
    alike (is_left d i (ns ++ n ∷ [])) (is_left d i ns) (samples d (c ∷ cs)) (left_other d i ns n off)

-- ---- an inhabited dimension has a sample

case_among : (k n : ℕ) → k < n → IsOneOf (Case k) (cases_below n)
case_among k zero less = absurd (omega (arith, less))
case_among k (suc n) less = by (nat_eq k n) refl (case_among k n)
  where
    by : (b : Bool) → nat_eq k n ≡ b → (k < n → IsOneOf (Case k) (cases_below n))
        → IsOneOf (Case k) (cases_below (suc n))
    by true e rest = let same : k ≡ n = grind (arith, nat_tests, e) in inl (ap Case same)
    by false e rest = inr (rest (grind (arith, nat_tests, e, less)))

rank_among : (c : Cut) (cs : List Cut) → IsOneOf c cs → IsOneOf (Rank (limit c)) (ranks_of cs)
rank_among c [] among = absurd (among)
rank_among c (e ∷ cs) (inl same) = inl (ap (λ x. Rank (limit x)) same)
rank_among c (e ∷ cs) (inr among) = inr (rank_among c cs among)

abbrev IsRange : Extent → Type 0
IsRange (Ranks r) = Unit {0}
IsRange (Cases set) = ⊥

-- each narrowing of dimension i has the limit of its cut among some samples
abbrev LimitsIn : List Sample → ℕ → List Narrowing → Type 0
LimitsIn xs i ns = AllHave (λ n. (n.dim == i) ≡ true → IsOneOf (Rank (limit n.cut)) xs) ns

low_one : (xs : List Sample) (e : Extent) (c : Cut) (so : Bool) → IsOneOf (Rank (low_in e)) xs
    → IsOneOf (Rank (limit c)) xs → IsOneOf (Rank (low_in (narrowed e c so))) xs
low_one xs (Cases set) c so low at = low
low_one xs (Ranks r) c so low at = by (is_under c so)
  where
    greater : (b : Bool) → int_lt (limit c) r.low ≡ b → IsOneOf (Rank (if b then r.low else limit c)) xs
    greater true e = low
    greater false e = at

    by : (under : Bool) → IsOneOf (Rank (narrowed_range r (limit c) under).low) xs
    by true = low
    by false = greater (int_lt (limit c) r.low) refl

low_after : (xs : List Sample) (i : ℕ) (e : Extent) (ns : List Narrowing) → IsOneOf (Rank (low_in e)) xs
    → LimitsIn xs i ns → IsOneOf (Rank (low_in (after i e ns))) xs
unfolding after
low_after xs i e [] low limits = low
low_after xs i e (n ∷ ns) low limits = low_after xs i (after_one i e n) ns (by (n.dim == i) refl) limits.1
  where
    by : (b : Bool) → (n.dim == i) ≡ b → IsOneOf (Rank (low_in (if b then narrowed e n.cut n.yes else e))) xs
    by true at = low_one xs e n.cut n.yes low (limits.0 at)
    by false off = low

range_after : (i : ℕ) (e : Extent) (ns : List Narrowing) → IsRange e → IsRange (after i e ns)
unfolding after
range_after i e [] is = is
range_after i e (n ∷ ns) is = range_after i (after_one i e n) ns (by (n.dim == i))
  where
    kept : (e : Extent) → IsRange e → IsRange (narrowed e n.cut n.yes)
    kept (Ranks r) is = tt
    kept (Cases set) is = is

    by : (b : Bool) → IsRange (if b then narrowed e n.cut n.yes else e)
    by true = kept e is
    by false = is

low_lies : (e : Extent) → IsRange e → is_none e ≡ false → in_extent (low_in e) e ≡ true
low_lies (Ranks r) is some = least r.low r.high some
  where
    least : (l h : ℤ) → int_lt h l ≡ false → (not (int_lt l l) && not (int_lt h l)) ≡ true
    least l h some = grind (arith, ints, some)
low_lies (Cases set) is some = absurd (is)

-- each narrowing of dimension i has a cut of its kind, which is one of these
abbrev pub CutsIn : Dim → List Cut → ℕ → List Narrowing → Type 0
CutsIn d cs i ns = AllHave (λ n. (n.dim == i) ≡ true → IsOneOf n.cut cs × IsTrue (is_cut d n.cut)) ns

limits_number : (d : Dim) (c : Cut) (cs : List Cut) (i : ℕ) (ns : List Narrowing) → CutsIn d (c ∷ cs) i ns
    → LimitsIn (Rank (low_in (start d)) ∷ ranks_of (c ∷ cs)) i ns
limits_number d c cs i [] cuts = tt
limits_number d c cs i (n ∷ ns) cuts =
    (λ at. inr (rank_among n.cut (c ∷ cs) (cuts.0 at).0), limits_number d c cs i ns cuts.1)

limits_truth : (c : Cut) (cs : List Cut) (i : ℕ) (ns : List Narrowing) → CutsIn dim.Truth (c ∷ cs) i ns
    → LimitsIn (Rank (pos 0) ∷ Rank (pos 1) ∷ []) i ns
limits_truth c cs i [] cuts = tt
limits_truth c cs i (n ∷ ns) cuts = (λ at. of n.cut (cuts.0 at).1, limits_truth c cs i ns cuts.1)
  where
    of : (c : Cut) → IsTrue (is_cut dim.Truth c) → IsOneOf (Rank (limit c)) (Rank (pos 0) ∷ Rank (pos 1) ∷ [])
    of (cut.Below s) h = absurd (true≢false (sym h))
    of (cut.AtMost s) h = absurd (true≢false (sym h))
    of cut.IsTrue h = inr (inl refl)
    of (cut.IsCase k) h = absurd (true≢false (sym h))

ranked : (d : Dim) (xs : List Sample) (i : ℕ) (ns : List Narrowing) → IsRange (start d)
    → IsOneOf (Rank (low_in (start d))) xs → LimitsIn xs i ns → is_none (after i (start d) ns) ≡ false
    → 1 ≤ how_many (is_left d i ns) xs
ranked d xs i ns is low limits some =
    some_one (is_left d i ns) (Rank (low_in (after i (start d) ns))) xs (low_after xs i (start d) ns low limits)
    (low_lies (after i (start d) ns) (range_after i (start d) ns is) some)

pub weight_some : (d : Dim) (cs : List Cut) (i : ℕ) (ns : List Narrowing) (x : Point) → IsTrue (is_point d x)
    → all_agree i x ns ≡ true → is_none (after i (start d) ns) ≡ false → CutsIn d cs i ns → 1 ≤ weight d cs i ns
unfolding start
weight_some d [] i ns x point_is agree some cuts = omega arith
weight_some dim.Whole (c ∷ cs) i ns x point_is agree some cuts =
    ranked dim.Whole (samples dim.Whole (c ∷ cs)) i ns tt (inl refl) (limits_number dim.Whole c cs i ns cuts) some
weight_some dim.Money (c ∷ cs) i ns x point_is agree some cuts =
    ranked dim.Money (samples dim.Money (c ∷ cs)) i ns tt (inl refl) (limits_number dim.Money c cs i ns cuts) some
weight_some dim.Day (c ∷ cs) i ns x point_is agree some cuts =
    ranked dim.Day (samples dim.Day (c ∷ cs)) i ns tt (inl refl) (limits_number dim.Day c cs i ns cuts) some
weight_some dim.Decimal (c ∷ cs) i ns x point_is agree some cuts =
    ranked dim.Decimal (samples dim.Decimal (c ∷ cs)) i ns tt (inl refl) (limits_number dim.Decimal c cs i ns cuts) some
weight_some dim.Truth (c ∷ cs) i ns x point_is agree some cuts =
    ranked dim.Truth (samples dim.Truth (c ∷ cs)) i ns tt (inl refl) (limits_truth c cs i ns cuts) some
weight_some (dim.Cases n) (c ∷ cs) i ns (point.Case k) point_is agree some cuts =
    some_one (is_left (dim.Cases n) i ns) (Case k) (cases_below n)
    (case_among k n (grind (arith, nat_tests, point_is))) agree
weight_some (dim.Cases n) (c ∷ cs) i ns x point_is agree some cuts = absurd (true≢false (sym point_is))
