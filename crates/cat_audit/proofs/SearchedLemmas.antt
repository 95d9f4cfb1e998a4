-- The bad leaves of a searched tree: where their ways lead, and what holds of their regions.
use Rattle.std.proofs.Common.{◌≡◌, ℕ, suc, ◌+◌, Bool, true, false, not, IsTrue, if◌then◌else◌, List}
use Rattle.std.proofs.Common.{[], ◌∷◌, map, Some, refl, sym, ap, ◌∙◌, subst}
use Rattle.std.proofs.Common.{arith}
use Rattle.std.proofs.Common.{true≢false}
use Rattle.cat_region.specs.Regions.{Constraints, IsRegion, IsInhabited}
use Rattle.cat_scope.specs.Names.{AllHave}
use Rattle.cat_guard.specs.declared.table.Atom.{Atom}
use Rattle.cat_guard.specs.declared.table.Term.{Term}
use Rattle.cat_guard.specs.declared.table.Table.{Table}
use Rattle.cat_guard.specs.declared.table.TableTarget.{TableTarget}
use Rattle.cat_guard.specs.declared.tree.TreeNode.{TreeNode}
use Rattle.cat_guard.specs.Judged.{judged_in, covers}
use Rattle.cat_guard.specs.Soundness.{is_sound}
use Rattle.cat_guard.specs.Trees.{Tree, tree_of, answering}
use Rattle.cat_guard.specs.Trees as tree
use Rattle.cat_guard.specs.Valuations.{dims_of}
use Rattle.cat_guard.specs.Verdicts.{Verdict, Holds, Empty, Conflict, Open}
use Rattle.cat_guard.proofs.Exported.{sound_dims}
use Rattle.cat_guard.specs.Judgements.{is_bad}
use Rattle.cat_search.specs.declared.bad.BadLeaf.{BadLeaf}
use Rattle.cat_search.specs.Searched.{everything, Reached, leaves_from, size, is_known, bad_among, flaw_of, IsSearched}
use Rattle.cat_search.specs.OnWays.{AreOnWays}
use Rattle.cat_audit.specs.Lines.{bad_regions, leaves_in, bad_in}
use Rattle.cat_audit.specs.inside.Tried.{region_at, IsBadAt, AreBadFrom}
use Rattle.cat_audit.proofs.TriedLemmas.{earlier}
use Rattle.cat_scope.proofs.Exported.{all_append}
use Rattle.cat_search.proofs.Exported.{sides_are, same_dims}

-- ---- regions of a sound table

module _ (terms : List Term) (atoms : List Atom) (targets : List TableTarget)
    (sound : IsTrue (is_sound terms atoms targets)) where
  pub whole_is : IsRegion (everything terms)
  whole_is = record {
    dims = sound_dims terms atoms targets sound;
    narrowings = refl;
  }

-- ---- the leaves of a searched tree

-- a region of a searched leaf
pub record IsLeafRegion (terms : List Term) (atoms : List Atom) (t : TableTarget) (region : Constraints) : Type 0 where
  pub region_is : IsRegion region
  pub dims : region.dims ≡ dims_of terms
  pub inhabited : IsInhabited region
  pub known : IsTrue (is_known (judged_in atoms region t))

module _ (terms : List Term) (atoms : List Atom) (targets : List TableTarget)
    (sound : IsTrue (is_sound terms atoms targets)) (t : TableTarget) where
  abbrev Good : Reached → Type 0
  Good l = IsLeafRegion terms atoms t l.region

  leaves_good : (place : ℕ) (region : Constraints) (found : Tree) → IsRegion region → region.dims ≡ dims_of terms
      → IsSearched atoms t region found → AllHave Good (leaves_from atoms place region found)
  leaves_good place region tree.Leaf is dims searched = (
    record { region_is = is; dims = dims; inhabited = searched.0; known = searched.1 },
    tt,
  )
  leaves_good place region tree.Rest is dims searched = tt
  leaves_good place region (tree.Split a left right) is dims searched =
      all_append Good (leaves_from atoms (place + 1) (answering atoms region a true) left)
      (leaves_from atoms (place + 1 + size left) (answering atoms region a false) right)
      (leaves_good (place + 1) (answering atoms region a true) left
      (sides_are terms atoms targets sound region a true is dims)
      (same_dims terms atoms targets sound region a true dims) searched.1)
      (leaves_good (place + 1 + size left) (answering atoms region a false) right
      (sides_are terms atoms targets sound region a false is dims)
      (same_dims terms atoms targets sound region a false dims) searched.2)

  pub tree_good : (found : Tree) → IsSearched atoms t (everything terms) found
      → AllHave Good (leaves_from atoms 0 (everything terms) found)
  tree_good found searched = leaves_good 0 (everything terms) found (whole_is terms atoms targets sound) refl searched

-- ---- bad leaves

-- what isn't covered and isn't open is bad
wrong : (empty : Bool) (v : Verdict) → covers empty v ≡ false → IsTrue (is_known v) → IsTrue (is_bad empty v)
wrong empty (Holds d) uncovered known = absurd (true≢false uncovered)
wrong empty Empty uncovered known = ap not uncovered
wrong empty Conflict uncovered known = refl
wrong empty Open uncovered known = absurd (true≢false (sym known))

-- a bad region
pub record IsBadRegion (table : Table) (t : TableTarget) (region : Constraints) : Type 0 where
  pub leaf : IsLeafRegion table.terms table.atoms t region
  pub bad : IsTrue (is_bad t.may_be_empty (judged_in table.atoms region t))

module _ (table : Table) (t : TableTarget) where
  abbrev Regions : List Reached → List Constraints
  Regions ls = bad_regions table.atoms t ls

  pub regions_bad : (ls : List Reached) → AllHave (λ l. IsLeafRegion table.terms table.atoms t l.region) ls
      → AllHave (IsBadRegion table t) (Regions ls)
  regions_bad [] good = tt
  regions_bad (l ∷ ls) good = by (covers t.may_be_empty (judged_in table.atoms l.region t)) refl (regions_bad ls good.1)
    where
      by : (b : Bool) → covers t.may_be_empty (judged_in table.atoms l.region t) ≡ b
          → AllHave (IsBadRegion table t) (Regions ls)
          → AllHave (IsBadRegion table t) (if b then Regions ls else l.region ∷ Regions ls)
      by true e rest = rest
      by false e rest = (
        record {
          leaf = good.0;
          bad = wrong t.may_be_empty (judged_in table.atoms l.region t) e good.0.known;
        },
        rest,
      )

  module _ (nodes : List TreeNode) where
    -- bad leaves, and the regions to which their ways lead
    pub record AreTold (from : ℕ) (bs : List BadLeaf) (regions : List Constraints) : Type 0 where
      pub bad : AreBadFrom table t nodes from bs
      pub regions_are : regions ≡ map (region_at table nodes) bs

    pub told : (from : ℕ) (ls : List Reached) → AreOnWays table.atoms (everything table.terms) nodes from ls
        → AllHave (λ l. IsLeafRegion table.terms table.atoms t l.region) ls
        → AreTold from (bad_among table.atoms t ls) (Regions ls)
    told from [] on good = record { bad = tt; regions_are = refl }
    told from (l ∷ ls) on good =
        by (covers t.may_be_empty (judged_in table.atoms l.region t)) refl (told (suc l.leaf) ls on.2 good.1)
      where
        v : Verdict
        v = judged_in table.atoms l.region t

        b : BadLeaf
        b = record { leaf = l.leaf; flaw = flaw_of v }

        same : region_at table nodes b ≡ l.region
        same = sym on.1.region_is

        here : covers t.may_be_empty v ≡ false → IsBadAt table t nodes b
        here e = record {
          within = on.1.within;
          dims = ap (λ r. r.dims) same ∙ good.0.dims;
          inhabited = subst IsInhabited (sym same) good.0.inhabited;
          bad = subst (λ r. IsTrue (is_bad t.may_be_empty (judged_in table.atoms r t))) (sym same)
              (wrong t.may_be_empty v e good.0.known);
        }

        by : (c : Bool) → covers t.may_be_empty v ≡ c
            → AreTold (suc l.leaf) (bad_among table.atoms t ls) (Regions ls)
            → AreTold from (if c then bad_among table.atoms t ls else b ∷ bad_among table.atoms t ls)
            (if c then Regions ls else l.region ∷ Regions ls)
        by true e rest =
            let first = on.0 in
            record {
              bad = earlier table t nodes from (suc l.leaf) (bad_among table.atoms t ls) (omega (arith, first))
                  rest.bad;
              regions_are = rest.regions_are;
            }
        by false e rest = record {
          bad = (on.0, here e, rest.bad);
          regions_are = ap (λ r. r ∷ Regions ls) (sym same) ∙ ap (λ rs. region_at table nodes b ∷ rs) rest.regions_are;
        }

    pub bad_in_tree : (found : Tree) → tree_of nodes ≡ Some found
        → bad_in table t nodes ≡ Regions (leaves_from table.atoms 0 (everything table.terms) found)
    bad_in_tree found is = ap (λ o. Regions (leaves_in table.atoms (everything table.terms) o)) is
