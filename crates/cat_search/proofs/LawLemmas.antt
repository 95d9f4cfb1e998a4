-- Trees without bad leaves are closed, and the ends of a searched tree part what is admitted.
use Rattle.std.proofs.Common.{◌≡◌, ◌⊎◌, inl, inr, ℕ, ◌+◌, ◌<◌, Bool, true, false, IsTrue, if◌then◌else◌, List, [], ◌∷◌}
use Rattle.std.proofs.Common.{◌++◌, length, Option, Some, None, slice_get, refl, sym, ap, ◌∙◌, subst, true≢false}
use Rattle.cat_region.specs.declared.dim.Dim.{Dim}
use Rattle.cat_region.specs.Points.{answer}
use Rattle.cat_region.specs.Regions.{Constraints, Valuation, Admits, IsRegion, is_cut_at}
use Rattle.cat_region.proofs.Exported.{Admits-with_narrowing, IsRegion-with_narrowing}
use Rattle.cat_scope.specs.Names.{IsOneOf, AllHave}
use Rattle.cat_guard.specs.declared.table.Term.{Term}
use Rattle.cat_guard.specs.declared.table.Atom.{Atom}
use Rattle.cat_guard.specs.declared.table.TableTarget.{TableTarget}
use Rattle.cat_guard.specs.declared.tree.TreeNode.{TreeNode}
use Rattle.cat_guard.specs.Judged.{judged_in, covers}
use Rattle.cat_guard.specs.Soundness.{target_is_sound, is_sound}
use Rattle.cat_guard.specs.Trees.{Tree, with_answer, answering, Closed, AreClosed, is_whole}
use Rattle.cat_guard.specs.Trees as tree
use Rattle.cat_guard.specs.Valuations.{dims_of}
use Rattle.cat_guard.proofs.Exported.{both_true, all_more, targets_sound, sound_parts}
use Rattle.cat_guard.specs.Judgements.{atoms_in}
use Rattle.cat_search.specs.declared.bad.BadLeaf.{BadLeaf}
use Rattle.cat_search.specs.Parted.{ends, IsInOne}
use Rattle.cat_search.specs.Searched.{everything, IsFound, IsSearched, bad_among, leaves_from, size}
use Rattle.cat_search.proofs.TreeLemmas.{bad_append}
use Rattle.cat_search.proofs.WayLemmas.{region_is, cut_is, agrees_so, so_agrees}
use Rattle.cat_search.proofs.UnderwayLemmas.{answering_with}
use Rattle.cat_search.proofs.TargetLemmas.{all_at, def_below, atom_at}

both_none : (xs ys : List BadLeaf) → xs ++ ys ≡ [] → (xs ≡ []) × (ys ≡ [])
both_none [] ys is = (refl, is)
both_none (x ∷ xs) ys is = absurd (cc)

none_bad : (t : TableTarget) (leaf : ℕ) (b : Bool) (bad : BadLeaf) → (if b then [] else bad ∷ []) ≡ [] → b ≡ true
none_bad t leaf true bad is = refl
none_bad t leaf false bad is = absurd (cc)

-- ---- closed trees

module _ (terms : List Term) (atoms : List Atom) (targets : List TableTarget)
    (sound : IsTrue (is_sound terms atoms targets)) where
  pub sides_are : (region : Constraints) (a : ℕ) (b : Bool) → IsRegion region → region.dims ≡ dims_of terms
      → IsRegion (answering atoms region a b)
  sides_are region a b is dims = by (slice_get atoms a) refl
    where
      by : (o : Option Atom) → slice_get atoms a ≡ o → IsRegion (with_answer region o b)
      by None e = is
      by (Some atom) e = IsRegion-with_narrowing region _ is
          (subst (λ (ds : List Dim). IsTrue (is_cut_at ds atom.term atom.cut)) (sym dims)
          (cut_is terms atoms targets sound a atom e))

  pub same_dims : (region : Constraints) (a : ℕ) (b : Bool) → region.dims ≡ dims_of terms
      → (answering atoms region a b).dims ≡ dims_of terms
  same_dims region a b dims = by (slice_get atoms a)
    where
      by : (o : Option Atom) → (with_answer region o b).dims ≡ dims_of terms
      by None = dims
      by (Some atom) = dims

  abbrev pub ClosesLeaf : TableTarget → Type 0
  ClosesLeaf t = (region : Constraints) → IsRegion region → region.dims ≡ dims_of terms
      → IsTrue (covers t.may_be_empty (judged_in atoms region t)) → Closed atoms t region tree.Leaf

  abbrev pub ClosesTree : TableTarget → Type 0
  ClosesTree t = (region : Constraints) (place : ℕ) (tree : Tree) → IsRegion region → region.dims ≡ dims_of terms
      → IsTrue (is_whole tree) → bad_among atoms t (leaves_from atoms place region tree) ≡ []
      → Closed atoms t region tree

  closes : (t : TableTarget) → ClosesLeaf t → ClosesTree t
  closes t leaf region place tree.Leaf is dims whole none =
      leaf region is dims (none_bad t place (covers t.may_be_empty (judged_in atoms region t)) _ none)
  closes t leaf region place tree.Rest is dims whole none = absurd (true≢false (sym whole))
  closes t leaf region place (tree.Split a left right) is dims whole none =
      let two = both_true (is_whole left) (is_whole right) whole in
      let parts = both_none
      (bad_among atoms t (leaves_from atoms (place + 1) (answering atoms region a true) left))
      (bad_among atoms t (leaves_from atoms (place + 1 + size left) (answering atoms region a false) right))
      (sym (bad_append atoms t (leaves_from atoms (place + 1) (answering atoms region a true) left)
      (leaves_from atoms (place + 1 + size left) (answering atoms region a false) right)) ∙ none) in (
        closes t leaf (answering atoms region a true) (place + 1) left (sides_are region a true is dims)
            (same_dims region a true dims) two.0 parts.0,
        closes t leaf (answering atoms region a false) (place + 1 + size left) right (sides_are region a false is dims)
            (same_dims region a false dims) two.1 parts.1,
      )

  pub close_trees : AllHave ClosesLeaf targets → AllHave ClosesTree targets
  close_trees leaves = all_more ClosesLeaf ClosesTree targets leaves closes

  -- where a search finds none
  pub closed_found : AllHave ClosesTree targets → (n : ℕ) (t : TableTarget) → slice_get targets n ≡ Some t
      → (nodes : List TreeNode) (bad : List BadLeaf) (found : Tree) → IsFound terms atoms t nodes bad found
      → IsTrue (is_whole found) → bad ≡ [] → AreClosed atoms t (everything terms) nodes
  closed_found all n t at nodes bad found is whole none = (
    found,
    is.nodes_are,
    all_at ClosesTree targets n t all at (everything terms) 0 found (region_is terms atoms targets sound [] tt) refl
        whole (sym is.bad_are ∙ none),
  )

-- ---- parted regions

module _ (atoms : List Atom) (v : Valuation) where
  abbrev Out : Constraints → Type 0
  Out r = ¬ Admits r v

  out_both : (rs ss : List Constraints) → AllHave Out rs → AllHave Out ss → AllHave Out (rs ++ ss)
  out_both [] ss one two = two
  out_both (r ∷ rs) ss one two = (one.0, out_both rs ss one.1 two)

  in_first : (rs ss : List Constraints) → IsInOne v rs → AllHave Out ss → IsInOne v (rs ++ ss)
  in_first [] ss is out = absurd (is)
  in_first (r ∷ rs) ss (inl here) out = inl (here.0, out_both rs ss here.1 out)
  in_first (r ∷ rs) ss (inr there) out = inr (there.0, in_first rs ss there.1 out)

  in_second : (rs ss : List Constraints) → AllHave Out rs → IsInOne v ss → IsInOne v (rs ++ ss)
  in_second [] ss out is = is
  in_second (r ∷ rs) ss out is = inr (out.0, in_second rs ss out.1 is)

  from_side : (region : Constraints) (o : Option Atom) (b : Bool) → Admits (with_answer region o b) v → Admits region v
  from_side region None b admits = admits
  from_side region (Some atom) b admits = ((Admits-with_narrowing region _ v).0 admits).0

  all_out : (region : Constraints) (tree : Tree) → Out region → AllHave Out (ends atoms region tree)
  all_out region tree.Leaf out = (out, tt)
  all_out region tree.Rest out = (out, tt)
  all_out region (tree.Split a left right) out = out_both
      (ends atoms (answering atoms region a true) left) (ends atoms (answering atoms region a false) right)
      (all_out (answering atoms region a true) left (λ admits. out (from_side region (slice_get atoms a) true admits)))
      (all_out (answering atoms region a false) right
      (λ admits. out (from_side region (slice_get atoms a) false admits)))

  -- one side of an atom admits it, and the other doesn't
  sided : (region : Constraints) (atom : Atom) → Admits region v
      → (Admits (with_answer region (Some atom) true) v × Out (with_answer region (Some atom) false))
      ⊎ (Out (with_answer region (Some atom) true) × Admits (with_answer region (Some atom) false) v)
  sided region atom admits = by (answer atom.cut (v atom.term)) refl
    where
      on : (b : Bool) → answer atom.cut (v atom.term) ≡ b → Admits (with_answer region (Some atom) b) v
      on b e = (Admits-with_narrowing region (answering_with atom b) v).1
          (admits, agrees_so (v atom.term) (answering_with atom b) e)

      off : (b : Bool) → Admits (with_answer region (Some atom) b) v → answer atom.cut (v atom.term) ≡ b
      off b h = so_agrees (v atom.term) (answering_with atom b)
          ((Admits-with_narrowing region (answering_with atom b) v).0 h).1

      by : (b : Bool) → answer atom.cut (v atom.term) ≡ b
          → (Admits (with_answer region (Some atom) true) v × Out (with_answer region (Some atom) false))
          ⊎ (Out (with_answer region (Some atom) true) × Admits (with_answer region (Some atom) false) v)
      by true e = inl (on true e, λ h. true≢false (sym e ∙ off false h))
      by false e = inr (λ h. true≢false (sym (off true h) ∙ e), on false e)

  parted : (t : TableTarget) → ((a : ℕ) → IsOneOf a (atoms_in t) → a < length atoms) → (region : Constraints)
      (tree : Tree) → IsSearched atoms t region tree → Admits region v → IsInOne v (ends atoms region tree)
  parted t below region tree.Leaf searched admits = inl (admits, tt)
  parted t below region tree.Rest searched admits = inl (admits, tt)
  parted t below region (tree.Split a left right) searched admits =
      by (sided region found.0 admits) (parted t below (answering atoms region a true) left searched.1)
      (parted t below (answering atoms region a false) right searched.2)
    where
      found : (atom : Atom) × (slice_get atoms a ≡ Some atom)
      found = atom_at atoms a (below a searched.0.asked)

      side : (b : Bool) → with_answer region (Some found.0) b ≡ answering atoms region a b
      side b = ap (λ o. with_answer region o b) (sym found.1)

      by : (Admits (with_answer region (Some found.0) true) v × Out (with_answer region (Some found.0) false))
          ⊎ (Out (with_answer region (Some found.0) true) × Admits (with_answer region (Some found.0) false) v)
          → (Admits (answering atoms region a true) v → IsInOne v (ends atoms (answering atoms region a true) left))
          → (Admits (answering atoms region a false) v → IsInOne v (ends atoms (answering atoms region a false) right))
          → IsInOne v (ends atoms region (tree.Split a left right))
      by (inl one) first second = in_first
          (ends atoms (answering atoms region a true) left) (ends atoms (answering atoms region a false) right)
          (first (subst (λ r. Admits r v) (side true) one.0))
          (all_out (answering atoms region a false) right (subst Out (side false) one.1))
      by (inr other) first second = in_second
          (ends atoms (answering atoms region a true) left) (ends atoms (answering atoms region a false) right)
          (all_out (answering atoms region a true) left (subst Out (side true) other.0))
          (second (subst (λ r. Admits r v) (side false) other.1))

pub part : (terms : List Term) (atoms : List Atom) (targets : List TableTarget)
    → IsTrue (is_sound terms atoms targets)
    → AllHave (λ t. (region : Constraints) (tree : Tree) (v : Valuation) → IsSearched atoms t region tree
    → Admits region v → IsInOne v (ends atoms region tree)) targets
part terms atoms targets sound = all_more (λ t. IsTrue (target_is_sound (length atoms) t)) _ targets
    (targets_sound terms atoms targets sound)
    (λ t is region tree v. parted atoms v t
    (λ a. def_below (length atoms) a t.defs (sound_parts (length atoms) t is).0) region tree)
