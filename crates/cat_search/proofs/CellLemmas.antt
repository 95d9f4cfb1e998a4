-- A searched tree has at most as many leaves and rests as its target has cells.
use Rattle.std.proofs.Common.{◌≡◌, ◌⊎◌, inl, inr, ℕ, zero, suc, ◌+◌, ◌*◌, ◌<◌, ◌≤◌, ◌==◌, nat_eq, Bool, true, false}
use Rattle.std.proofs.Common.{IsTrue, if◌then◌else◌, List, [], ◌∷◌, ◌++◌, length, Option, Some, None, slice_get, refl}
use Rattle.std.proofs.Common.{sym, ap}
use Rattle.std.proofs.Common.{◌∙◌, subst, true≢false, arith}
use Rattle.std.specs.Prelude.{◌||◌}
use Rattle.std.specs.List.{list_any}
use Rattle.std.proofs.Math.Logic.{∥∥₁_elim}
use Rattle.std.proofs.Math.Nat.{le_trans, mul-le-mul_left, mul-le-mul_right, one-le-mul}
use Rattle.std.proofs.Math.Bridge.{le_prop}
use Rattle.std.proofs.lemmas.Bool.Decides.{nat_tests}
use Rattle.std.proofs.lemmas.Option.{slice_get_within}
use Rattle.cat_region.specs.declared.dim.Dim.{Dim}
use Rattle.cat_region.specs.declared.cut.Cut.{Cut}
use Rattle.cat_region.specs.declared.cut.Cut.TheVariants as cut
use Rattle.cat_region.specs.declared.narrowing.Narrowing.{Narrowing}
use Rattle.cat_region.specs.Decided.{lefts, admits_none}
use Rattle.cat_region.specs.Extents.{start, after, is_none}
use Rattle.cat_region.specs.Points.{is_point}
use Rattle.cat_region.specs.Regions.{Constraints, Valuation, Admits, IsRegion, IsInhabited, all_agree}
use Rattle.cat_region.specs.Regions.{is_point_of, is_point_at, is_cut_of as is_dim_cut}
use Rattle.cat_region.proofs.Exported.{Admits-by_dimensions, admits-of_IsInhabited, IsRegion-with_narrowing}
use Rattle.cat_scope.specs.Names.{IsOneOf, AllHave}
use Rattle.cat_guard.specs.declared.table.Term.{Term}
use Rattle.cat_guard.specs.declared.table.Atom.{Atom}
use Rattle.cat_guard.specs.declared.table.TableTarget.{TableTarget}
use Rattle.cat_guard.specs.Numbering.{firsts, is_seen}
use Rattle.cat_guard.specs.Soundness.{target_is_sound, is_sound}
use Rattle.cat_guard.specs.Terms.{same_cut}
use Rattle.cat_guard.specs.Trees.{Tree, with_answer, leaves}
use Rattle.cat_guard.specs.Trees as tree
use Rattle.cat_guard.specs.Valuations.{dims_of}
use Rattle.cat_guard.proofs.Exported.{both_true, all_more, targets_sound, sound_parts, nat_self, cut_same}
use Rattle.cat_guard.specs.Judgements.{atoms_in}
use Rattle.cat_search.specs.Cells.{cut_before, cuts_of, distinct_cuts, parted, cells_from, cells}
use Rattle.cat_search.specs.Searched.{everything, IsSearched, rests}
use Rattle.cat_search.proofs.SampleLemmas.{weight, weight_most, weight_split, weight_other, weight_some, CutsIn}
use Rattle.cat_search.proofs.UnderwayLemmas.{answering_with}
use Rattle.cat_search.proofs.TargetLemmas.{atom_at, def_below}
use Rattle.cat_search.proofs.WayLemmas.{cut_is, region_is}

-- ---- the distinct cuts are all of them

seen_or_first : (c : Cut) (seen xs : List Cut) → IsOneOf c xs
    → (is_seen same_cut c seen ≡ true) ⊎ IsOneOf c (firsts same_cut seen xs)
seen_or_first c seen [] among = absurd (among)
seen_or_first c seen (x ∷ xs) among =
    by (is_seen same_cut x seen) refl among (seen_or_first c seen xs) (seen_or_first c (x ∷ seen) xs)
  where
    now : (b : Bool) → same_cut x c ≡ b → (if b then true else is_seen same_cut c seen) ≡ true
        → (is_seen same_cut c seen ≡ true) ⊎ IsOneOf c (x ∷ firsts same_cut (x ∷ seen) xs)
    now true e h = inr (inl (sym (cut_same x c e)))
    now false e h = inl h

    later : (is_seen same_cut c (x ∷ seen) ≡ true) ⊎ IsOneOf c (firsts same_cut (x ∷ seen) xs)
        → (is_seen same_cut c seen ≡ true) ⊎ IsOneOf c (x ∷ firsts same_cut (x ∷ seen) xs)
    later (inl h) = now (same_cut x c) refl h
    later (inr there) = inr (inr there)

    by : (b : Bool) → is_seen same_cut x seen ≡ b → IsOneOf c (x ∷ xs)
        → (IsOneOf c xs → (is_seen same_cut c seen ≡ true) ⊎ IsOneOf c (firsts same_cut seen xs))
        → (IsOneOf c xs → (is_seen same_cut c (x ∷ seen) ≡ true) ⊎ IsOneOf c (firsts same_cut (x ∷ seen) xs))
        → (is_seen same_cut c seen ≡ true)
        ⊎ IsOneOf c (if b then firsts same_cut seen xs else x ∷ firsts same_cut (x ∷ seen) xs)
    by true e (inl same) rest more = inl (ap (λ d. is_seen same_cut d seen) same ∙ e)
    by true e (inr there) rest more = rest there
    by false e (inl same) rest more = inr (inl same)
    by false e (inr there) rest more = later (more there)

first_of_all : (c : Cut) (xs : List Cut) → IsOneOf c xs → IsOneOf c (firsts same_cut [] xs)
first_of_all c xs among = by (seen_or_first c [] xs among)
  where
    by : (is_seen same_cut c [] ≡ true) ⊎ IsOneOf c (firsts same_cut [] xs) → IsOneOf c (firsts same_cut [] xs)
    by (inl h) = absurd (true≢false (sym h))
    by (inr there) = there

-- some cuts, as the first and the others
pub record Filled (cuts : List Cut) : Type 0 where
  pub first : Cut
  pub others : List Cut
  pub are : cuts ≡ first ∷ others

filled : (c : Cut) (cs : List Cut) → IsOneOf c cs → Filled cs
filled c [] among = absurd (among)
filled c (e ∷ cs) among = record { first = e; others = cs; are = refl }

module _ (atoms : List Atom) where
  cut_among : (numbers : List ℕ) (a : ℕ) (atom : Atom) → IsOneOf a numbers → slice_get atoms a ≡ Some atom
      → IsOneOf atom.cut (cuts_of atoms atom.term numbers)
  cut_among [] a atom among at = absurd (among)
  cut_among (b ∷ numbers) a atom (inl same) at =
      subst (λ o. IsOneOf atom.cut (cut_before atom.term o (cuts_of atoms atom.term numbers)))
      (sym at ∙ ap (slice_get atoms) same)
      (subst (λ x. IsOneOf atom.cut (if x then atom.cut ∷ cuts_of atoms atom.term numbers
      else cuts_of atoms atom.term numbers)) (sym (nat_self atom.term)) (inl refl))
  cut_among (b ∷ numbers) a atom (inr among) at = by (slice_get atoms b) (cut_among numbers a atom among at)
    where
      by : (o : Option Atom) → IsOneOf atom.cut (cuts_of atoms atom.term numbers)
          → IsOneOf atom.cut (cut_before atom.term o (cuts_of atoms atom.term numbers))
      by None rest = rest
      by (Some other) rest = one (nat_eq other.term atom.term)
        where
          one : (x : Bool) → IsOneOf atom.cut (if x then other.cut ∷ cuts_of atoms atom.term numbers
              else cuts_of atoms atom.term numbers)
          one true = inr rest
          one false = rest

-- ---- samples of all terms

module _ (atoms : List Atom) (numbers : List ℕ) where
  abbrev Cuts : ℕ → List Cut
  Cuts i = distinct_cuts atoms numbers i

  abbrev total : ℕ → List Dim → List Narrowing → ℕ
  total i [] ns = 1
  total i (d ∷ ds) ns = weight d (Cuts i) i ns * total (suc i) ds ns

  total_most : (i : ℕ) (ds : List Dim) (ns : List Narrowing) → total i ds ns ≤ cells_from atoms numbers i ds
  total_most i [] ns = omega arith
  total_most i (d ∷ ds) ns = le_trans (mul-le-mul_right (total (suc i) ds ns) (weight_most d (Cuts i) i ns))
      (mul-le-mul_left (parted d (length (Cuts i))) (total_most (suc i) ds ns))

  other_is : (j i : ℕ) → j < i → (j == i) ≡ false
  other_is j i less = grind (arith, nat_tests, less)

  total_past : (i : ℕ) (ds : List Dim) (ns : List Narrowing) (n : Narrowing) → n.dim < i
      → total i ds (ns ++ n ∷ []) ≡ total i ds ns
  total_past i [] ns n past = refl
  total_past i (d ∷ ds) ns n past =
      ap (λ k. k * total (suc i) ds (ns ++ n ∷ [])) (weight_other d (Cuts i) i ns n (other_is n.dim i past))
      ∙ ap (λ k. weight d (Cuts i) i ns * k) (total_past (suc i) ds ns n (omega (arith, past)))

  from_right : (x y p : ℕ) → x * p + y * p ≡ (x + y) * p
  from_right x y p = grind arith

  from_left : (w x y : ℕ) → w * x + w * y ≡ w * (x + y)
  from_left w x y = grind arith

  module _ (ns : List Narrowing) (on off : Narrowing) (dims : off.dim ≡ on.dim) (cuts : off.cut ≡ on.cut)
      (yes_is : on.yes ≡ true) (no_is : off.yes ≡ false) (some : Filled (Cuts on.dim)) where
    here_split : (d : Dim) (i : ℕ) → on.dim ≡ i
        → weight d (Cuts i) i (ns ++ on ∷ []) + weight d (Cuts i) i (ns ++ off ∷ []) ≡ weight d (Cuts i) i ns
    here_split d i at =
        let here : Cuts i ≡ some.first ∷ some.others = ap Cuts (sym at) ∙ some.are in
        subst (λ cs. weight d cs i (ns ++ on ∷ []) + weight d cs i (ns ++ off ∷ []) ≡ weight d cs i ns) (sym here)
        (weight_split d some.first some.others i ns on off (grind (arith, nat_tests, at)) dims cuts yes_is no_is)

    total_split : (k i : ℕ) (ds : List Dim) (d : Dim) → slice_get ds k ≡ Some d → on.dim ≡ i + k
        → total i ds (ns ++ on ∷ []) + total i ds (ns ++ off ∷ []) ≡ total i ds ns
    total_split k i [] d is at = absurd (cc)
    total_split zero i (e ∷ ds) d is at =
        let here : on.dim ≡ i = omega (arith, at) in
        let there : off.dim ≡ i = dims ∙ here in
        ap (λ k. weight e (Cuts i) i (ns ++ on ∷ []) * k + weight e (Cuts i) i (ns ++ off ∷ [])
        * total (suc i) ds (ns ++ off ∷ [])) (total_past (suc i) ds ns on (omega (arith, here)))
        ∙ ap (λ k. weight e (Cuts i) i (ns ++ on ∷ []) * total (suc i) ds ns + weight e (Cuts i) i (ns ++ off ∷ []) * k)
        (total_past (suc i) ds ns off (omega (arith, there)))
        ∙ from_right (weight e (Cuts i) i (ns ++ on ∷ [])) (weight e (Cuts i) i (ns ++ off ∷ [])) (total (suc i) ds ns)
        ∙ ap (λ w. w * total (suc i) ds ns) (here_split e i here)
    total_split (suc k) i (e ∷ ds) d is at =
        let on_other : (on.dim == i) ≡ false = grind (arith, nat_tests, at) in
        let off_other : (off.dim == i) ≡ false = ap (λ j. j == i) dims ∙ on_other in
        ap (λ w. w * total (suc i) ds (ns ++ on ∷ []) + weight e (Cuts i) i (ns ++ off ∷ [])
        * total (suc i) ds (ns ++ off ∷ [])) (weight_other e (Cuts i) i ns on on_other)
        ∙ ap (λ w. weight e (Cuts i) i ns * total (suc i) ds (ns ++ on ∷ []) + w * total (suc i) ds (ns ++ off ∷ []))
        (weight_other e (Cuts i) i ns off off_other)
        ∙ from_left (weight e (Cuts i) i ns) (total (suc i) ds (ns ++ on ∷ [])) (total (suc i) ds (ns ++ off ∷ []))
        ∙ ap (λ w. weight e (Cuts i) i ns * w) (total_split k (suc i) ds d is (omega (arith, at)))

  -- what an admitted valuation says of a dimension
  pub record Shows (ns : List Narrowing) (v : Valuation) (i : ℕ) (d : Dim) : Type 0 where
    pub point_is : IsTrue (is_point d (v i))
    pub agree : all_agree i (v i) ns ≡ true
    pub cuts : CutsIn d (Cuts i) i ns

  total_some : (i : ℕ) (ds : List Dim) (ns : List Narrowing) (v : Valuation)
      → ((j k : ℕ) (d : Dim) → j ≡ i + k → slice_get ds k ≡ Some d → Shows ns v j d)
      → list_any is_none (lefts i ds ns) ≡ false → 1 ≤ total i ds ns
  total_some i [] ns v shows some = omega arith
  total_some i (d ∷ ds) ns v shows some =
      let here = shows i 0 d (omega arith) refl in
      let two = neither (is_none (after i (start d) ns)) (list_any is_none (lefts (suc i) ds ns)) some in
      one-le-mul (weight_some d (Cuts i) i ns (v i) here.point_is here.agree two.0 here.cuts)
      (total_some (suc i) ds ns v (λ j k e at is. shows j (suc k) e (omega (arith, at)) is) two.1)
    where
      neither : (a b : Bool) → (a || b) ≡ false → (a ≡ false) × (b ≡ false)
      neither true b h = absurd (true≢false h)
      neither false b h = (refl, h)

-- ---- trees

module _ (terms : List Term) (atoms : List Atom) (targets : List TableTarget)
    (sound : IsTrue (is_sound terms atoms targets)) (t : TableTarget)
    (below : (a : ℕ) → IsOneOf a (atoms_in t) → a < length atoms) where
  abbrev Dims : List Dim
  Dims = dims_of terms

  abbrev At : List Narrowing → Constraints
  At ns = record { dims = Dims; narrowings = ns; room = 0 }

  -- a narrowing answers an atom of the target
  pub record IsOf (n : Narrowing) : Type 0 where
    pub number : ℕ
    pub asked : IsOneOf number (atoms_in t)
    pub atom_is : slice_get atoms number ≡ Some (record { term = n.dim; cut = n.cut })

  its_cut : (n : Narrowing) → IsOf n → IsOneOf n.cut (distinct_cuts atoms (atoms_in t) n.dim)
  its_cut n of = first_of_all n.cut (cuts_of atoms n.dim (atoms_in t))
      (cut_among atoms (atoms_in t) of.number (record { term = n.dim; cut = n.cut }) of.asked of.atom_is)

  cuts_in : (ns : List Narrowing) → AllHave IsOf ns → (i : ℕ) (d : Dim) → slice_get Dims i ≡ Some d
      → CutsIn d (distinct_cuts atoms (atoms_in t) i) i ns
  cuts_in [] all i d at = tt
  cuts_in (n ∷ ns) all i d at = (
    λ same. let here : n.dim ≡ i = grind (arith, nat_tests, same) in (
      subst (λ (j : ℕ). IsOneOf n.cut (distinct_cuts atoms (atoms_in t) j)) here (its_cut n all.0),
      subst (λ (o : Option Dim). IsTrue (is_dim_cut o n.cut)) (ap (slice_get Dims) here ∙ at)
          (cut_is terms atoms targets sound all.0.number _ all.0.atom_is),
    ),
    cuts_in ns all.1 i d at,
  )

  all_more_one : (ns : List Narrowing) (n : Narrowing) → AllHave IsOf ns → IsOf n → AllHave IsOf (ns ++ n ∷ [])
  all_more_one [] n all one = (one, tt)
  all_more_one (m ∷ ns) n all one = (all.0, all_more_one ns n all.1 one)

  abbrev All : List Narrowing → ℕ
  All ns = total atoms (atoms_in t) 0 Dims ns

  end_counts : (ns : List Narrowing) → IsRegion (At ns) → AllHave IsOf ns → IsInhabited (At ns) → 1 ≤ All ns
  unfolding admits_none
  end_counts ns is all some = ∥∥₁_elim some le_prop (λ found. counts found.0 found.1)
    where
      none : list_any is_none (lefts 0 Dims ns) ≡ false
      none = admits-of_IsInhabited (At ns) is some

      counts : (v : Valuation) → Admits (At ns) v → 1 ≤ All ns
      counts v admits = total_some atoms (atoms_in t) 0 Dims ns v (λ j k d at here.
          let index : slice_get Dims j ≡ Some d = ap (slice_get Dims) (omega (arith, at)) ∙ here in
          let shown = (Admits-by_dimensions (At ns) v is).0 admits j (slice_get_within Dims j d index) in
          let two = both_true (is_point_at Dims j (v j)) (all_agree j (v j) ns) shown in
          record {
            point_is = subst (λ (o : Option Dim). IsTrue (is_point_of o (v j))) index two.0;
            agree = two.1;
            cuts = cuts_in ns all j d index;
          }) none

  counted : (ns : List Narrowing) (u : Tree) → IsRegion (At ns) → AllHave IsOf ns → IsSearched atoms t (At ns) u
      → leaves u + rests u ≤ All ns
  counted ns tree.Leaf is all searched =
      let one = end_counts ns is all searched.0 in omega (arith, one)
  counted ns tree.Rest is all searched = let one = end_counts ns is all searched in omega (arith, one)
  counted ns (tree.Split a left right) is all searched =
      let found = atom_at atoms a (below a searched.0.asked) in
      let atom = found.0 in
      let on = answering_with atom true in
      let off = answering_with atom false in
      let on_of : IsOf on = record { number = a; asked = searched.0.asked; atom_is = found.1 } in
      let off_of : IsOf off = record { number = a; asked = searched.0.asked; atom_is = found.1 } in
      let kind = cut_is terms atoms targets sound a atom found.1 in
      let first = counted (ns ++ on ∷ []) left (IsRegion-with_narrowing (At ns) on is kind)
      (all_more_one ns on all on_of)
      (subst (λ o. IsSearched atoms t (with_answer (At ns) o true) left) found.1 searched.1) in
      let second = counted (ns ++ off ∷ []) right (IsRegion-with_narrowing (At ns) off is kind)
      (all_more_one ns off all off_of)
      (subst (λ o. IsSearched atoms t (with_answer (At ns) o false) right) found.1 searched.2) in
      let dim = dim_at atom.cut atom.term (slice_get Dims atom.term) refl kind in
      let both : All (ns ++ on ∷ []) + All (ns ++ off ∷ []) ≡ All ns =
      total_split atoms (atoms_in t) ns on off refl refl refl refl
      (filled on.cut (distinct_cuts atoms (atoms_in t) on.dim) (its_cut on on_of)) atom.term 0 Dims dim.0 dim.1
      (omega arith) in
      omega (arith, first, second, both)
    where
      dim_at : (c : Cut) (i : ℕ) (o : Option Dim) → slice_get Dims i ≡ o → IsTrue (is_dim_cut o c)
          → (d : Dim) × (slice_get Dims i ≡ Some d)
      dim_at c i None is kind = absurd (true≢false (sym kind))
      dim_at c i (Some d) is kind = (d, is)

  pub within_cells : (u : Tree) → IsSearched atoms t (everything terms) u → leaves u + rests u ≤ cells terms atoms t
  within_cells u searched =
      le_trans (counted [] u (region_is terms atoms targets sound [] tt) tt searched)
      (total_most atoms (atoms_in t) 0 Dims [])

-- what holds of each target
abbrev pub StaysWithin : List Term → List Atom → TableTarget → Type 0
StaysWithin terms atoms t =
    (tree : Tree) → IsSearched atoms t (everything terms) tree → leaves tree + rests tree ≤ cells terms atoms t

pub bound : (terms : List Term) (atoms : List Atom) (targets : List TableTarget)
    → IsTrue (is_sound terms atoms targets) → AllHave (StaysWithin terms atoms) targets
bound terms atoms targets sound =
    all_more (λ t. IsTrue (target_is_sound (length atoms) t)) (StaysWithin terms atoms) targets
    (targets_sound terms atoms targets sound)
    (λ t is. within_cells terms atoms targets sound t
    (λ a. def_below (length atoms) a t.defs (sound_parts (length atoms) t is).0))
