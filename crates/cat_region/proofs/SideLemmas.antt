-- The way down from a region, and the way back up from a leaf.
use Rattle.std.proofs.Common.{◌≡◌, ℕ, suc, ◌+◌, ◌-◌, Bool, true, false, if◌then◌else◌, List, [], ◌∷◌, ◌++◌, length}
use Rattle.std.proofs.Common.{take}
use Rattle.std.proofs.Common.{Option, Some, None, refl, sym, ap, ◌∙◌, subst, arith, length-append}
use Rattle.std.proofs.lemmas.Bool.{and_parts}
use Rattle.std.specs.List.{list_all}
use Rattle.cat_region.specs.declared.dim.Dim.{Dim}
use Rattle.cat_region.specs.declared.cut.Cut.{Cut}
use Rattle.cat_region.specs.declared.narrowing.Narrowing.{Narrowing}
use Rattle.cat_region.specs.Regions.{Constraints, with_narrowing, narrowed_to, last_narrowing, is_cut_at}
use Rattle.cat_region.specs.Sides.{along, IsAt, false_side, turns, Turns, true_sides}
use Rattle.cat_region.specs.inside.Undone.{Undoes}
use Rattle.cat_region.proofs.TrailLemmas.{narrowings-undone, last_narrowing-more}

-- ---- the way down

-- the dimensions stay
pub along_dims : (base : Constraints) (path : List Narrowing) → (along base path).dims ≡ base.dims
along_dims base [] = refl
along_dims base (n ∷ path) = along_dims base path

pub along_alike : (one other : Constraints) (path : List Narrowing) → one.narrowings ≡ other.narrowings
    → (along one path).narrowings ≡ (along other path).narrowings
along_alike one other [] same = same
along_alike one other (n ∷ path) same = ap (λ ns. ns ++ n ∷ []) (along_alike one other path same)

along_both : (base : Constraints) (path before : List Narrowing)
    → along base (path ++ before) ≡ along (along base before) path
along_both base [] before = refl
along_both base (n ∷ path) before = ap (λ r. with_narrowing r n) (along_both base path before)

-- a path behind another one
pub joined : (top above region : Constraints) (before path : List Narrowing) → IsAt top before above
    → IsAt above path region → IsAt top (path ++ before) region
joined top above region before path first second = record {
  dims = second.dims ∙ first.dims;
  narrowings =
      second.narrowings ∙ along_alike above (along top before) path first.narrowings
      ∙ sym (ap (λ r. r.narrowings) (along_both top path before));
  room =
      let one = first.room in
      let two = second.room in
      let long = length-append path before in
      omega (arith, one, two, long);
}

-- ---- the last narrowing, in front of which the others stand

-- narrowings, as those before the last with the last
pub record Ends (ns : List Narrowing) (n : Narrowing) : Type 0 where
  pub before : List Narrowing
  pub is : ns ≡ before ++ n ∷ []

pub ends : (ns : List Narrowing) (last : ℕ × Cut × Bool) → last_narrowing ns ≡ Some last
    → Ends ns (narrowed_to last.0 last.1 last.2)
ends [] last is = absurd (cc)
ends (n ∷ []) last is = record { before = []; is = one }
  where
    part : Option (ℕ × Cut × Bool) → Narrowing
    part None = n
    part (Some l) = narrowed_to l.0 l.1 l.2

    one : n ∷ [] ≡ narrowed_to last.0 last.1 last.2 ∷ []
    one = ap (λ m. m ∷ []) (ap part is)
ends (n ∷ m ∷ ns) last is =
    let rest = ends (m ∷ ns) last is in record { before = n ∷ rest.before; is = ap (λ ms. n ∷ ms) rest.is }

pub sides_more : (ns : List Narrowing) (n : Narrowing)
    → true_sides (ns ++ n ∷ []) ≡ true_sides ns + (if n.yes then 1 else 0)
sides_more [] n = omega arith
sides_more (m ∷ ns) n = let before = sides_more ns n in omega (arith, before)

pub sides_less : (ns after : List Narrowing) (last : ℕ × Cut × Bool) → last_narrowing ns ≡ Some last
    → after ≡ take (length ns - 1) ns → true_sides ns ≡ true_sides after + (if last.2 then 1 else 0)
sides_less ns after last is less =
    let n = narrowed_to last.0 last.1 last.2 in
    let e = ends ns last is in
    let same : after ≡ e.before =
    less ∙ ap (λ ms. take (length ms - 1) ms) e.is ∙ narrowings-undone e.before n in
    ap true_sides (e.is ∙ ap (λ ms. ms ++ n ∷ []) (sym same)) ∙ sides_more after n

-- ---- one narrowing is undone

module _ (base : Constraints) (region : Constraints) (room : ℕ) (whole : base.room ≡ room) where
  pub none_last : (path : List Narrowing) → last_narrowing region.narrowings ≡ None → IsAt base path region
      → Undoes base path None region
  none_last [] none at = at
  none_last (n ∷ path) none at =
      let last = last_narrowing-more (along base path).narrowings n in
      let here = ap last_narrowing at.narrowings in
      absurd (cc)

  pub last_undone : (path : List Narrowing) (last : ℕ × Cut × Bool) (after : Constraints) → ¬ (region.room ≡ room)
      → last_narrowing region.narrowings ≡ Some last → IsAt base path region → after.dims ≡ region.dims
      → after.narrowings ≡ take (length region.narrowings - 1) region.narrowings → after.room ≡ region.room + 1
      → Undoes base path (Some last) after
  last_undone [] last after more is at dims narrowings left =
      let all : region.room + 0 ≡ base.room = at.room in
      absurd (more (omega (arith, all, whole)))
  last_undone (n ∷ path) last after more is at dims narrowings left =
      let here = ap last_narrowing at.narrowings in
      let made = last_narrowing-more (along base path).narrowings n in
      let all : region.room + suc (length path) ≡ base.room = at.room in (
        cc,
        record {
          dims = dims ∙ at.dims;
          narrowings =
              narrowings ∙ ap (λ ns. take (length ns - 1) ns) at.narrowings
              ∙ narrowings-undone (along base path).narrowings n;
          room = omega (arith, all, left);
        },
      )

-- ---- and one after the other

-- on the way back the turns that are left are those of the whole path
pub record IsBack (base : Constraints) (path : List Narrowing) (region : Constraints) : Type 0 where
  pub left : List Narrowing
  pub same : turns path ≡ turns left
  pub at : IsAt base left region

-- a narrowing is on the true side or on the false one
module _ (base : Constraints) (path : List Narrowing) (after : Constraints) (last : ℕ × Cut × Bool) where
  passed : (left : List Narrowing) → turns path ≡ turns left → Undoes base left (Some last) after → last.2 ≡ false
      → IsBack base path after
  passed [] same undoes is = absurd (undoes)
  passed (n ∷ left) same undoes is =
      let other : n.yes ≡ false = sym (ap (λ l. l.2) undoes.0) ∙ is in
      record {
        left = left;
        same = same ∙ ap (λ b. if b then (false_side n ∷ left) ∷ turns left else turns left) other;
        at = undoes.1;
      }

  pub passes_back : (region : Constraints) → IsBack base path region
      → ((left : List Narrowing) → IsAt base left region → Undoes base left (Some last) after) → last.2 ≡ false
      → IsBack base path after
  passes_back region back undoes is = passed back.left back.same (undoes back.left back.at) is

  over : (left : List Narrowing) (turned : Constraints) → turns path ≡ turns left
      → Undoes base left (Some last) after → last.2 ≡ true → turned.dims ≡ after.dims
      → turned.narrowings ≡ after.narrowings ++ narrowed_to last.0 last.1 false ∷ []
      → turned.room + 1 ≡ after.room → Turns base path true turned
  over [] turned same undoes is dims narrowings room = absurd (undoes)
  over (n ∷ left) turned same undoes is dims narrowings room =
      let one : n.yes ≡ true = sym (ap (λ l. l.2) undoes.0) ∙ is in
      let side : narrowed_to last.0 last.1 false ≡ false_side n =
      ap (λ l. narrowed_to l.0 l.1 false) undoes.0 in
      let rest = undoes.1.room in (
        false_side n ∷ left,
        same ∙ ap (λ b. if b then (false_side n ∷ left) ∷ turns left else turns left) one,
        record {
          dims = dims ∙ undoes.1.dims;
          narrowings =
              narrowings ∙ ap (λ ns. ns ++ narrowed_to last.0 last.1 false ∷ []) undoes.1.narrowings
              ∙ ap (λ m. (along base left).narrowings ++ m ∷ []) side;
          room = omega (arith, rest, room);
        },
      )

  pub turns_over : (region turned : Constraints) → IsBack base path region
      → ((left : List Narrowing) → IsAt base left region → Undoes base left (Some last) after) → last.2 ≡ true
      → turned.dims ≡ after.dims → turned.narrowings ≡ after.narrowings ++ narrowed_to last.0 last.1 false ∷ []
      → turned.room + 1 ≡ after.room → Turns base path true turned
  turns_over region turned back undoes is dims narrowings room =
      over back.left turned back.same (undoes back.left back.at) is dims narrowings room

module _ (base : Constraints) (path : List Narrowing) (after : Constraints) where
  at_end : (left : List Narrowing) → turns path ≡ turns left → Undoes base left None after → Turns base path false after
  at_end [] same undoes = (same, undoes)
  at_end (n ∷ left) same undoes = absurd (undoes)

  pub no_turn : (region : Constraints) → IsBack base path region
      → ((left : List Narrowing) → IsAt base left region → Undoes base left None after) → Turns base path false after
  no_turn region back undoes = at_end back.left back.same (undoes back.left back.at)

-- what is at no path is the whole
pub at_base : (base region : Constraints) → IsAt base [] region → region ≡ base
at_base base region at =
    let room : region.room ≡ base.room = let all : region.room + 0 ≡ base.room = at.room in omega (arith, all) in
    ap (λ ds. record { dims = ds; narrowings = region.narrowings; room = region.room }) at.dims
    ∙ ap (λ ns. record { dims = base.dims; narrowings = ns; room = region.room }) at.narrowings
    ∙ ap (λ n. record { dims = base.dims; narrowings = base.narrowings; room = n }) room

-- where a region is on the way from a base
abbrev pub IsOnWay : Constraints → Constraints → Type 0
IsOnWay base region = (left : List Narrowing) × IsAt base left region

module _ (base : Constraints) (after : Constraints) where
  back : (left : List Narrowing) → Undoes base left None after → after ≡ base
  back [] undoes = at_base base after undoes
  back (n ∷ left) undoes = absurd (undoes)

-- the last of some narrowings is one of them
pub last_cut : (dims : List Dim) (ns : List Narrowing) (last : ℕ × Cut × Bool) → last_narrowing ns ≡ Some last
    → list_all (λ n. is_cut_at dims n.dim n.cut) ns ≡ true → is_cut_at dims last.0 last.1 ≡ true
last_cut dims [] last is all = absurd (cc)
last_cut dims (n ∷ []) last is all =
    let same : (n.dim, n.cut, n.yes) ≡ last = cc in
    subst (λ (l : ℕ × Cut × Bool). is_cut_at dims l.0 l.1 ≡ true) same
    (and_parts (is_cut_at dims n.dim n.cut) true all).0
last_cut dims (n ∷ m ∷ ns) last is all =
    last_cut dims (m ∷ ns) last is
    (and_parts (is_cut_at dims n.dim n.cut) (list_all (λ x. is_cut_at dims x.dim x.cut) (m ∷ ns)) all).1
