-- How far the trees of a table's targets were walked.
use Rattle.std.proofs.Common.{◌≡◌, ℕ, suc, ◌<◌, nat_lt, Bool, true, ◌&&◌, IsTrue, List, [], ◌∷◌, ◌++◌, map, drop}
use Rattle.std.proofs.Common.{length, Some, Ok, slice_get, refl, sym, ap, ◌∙◌, subst, append_assoc}
use Rattle.std.proofs.Common.{◌≤◌, append-nil, arith}
use Rattle.std.proofs.lemmas.List.{drop_all}
use Rattle.cat_pos.specs.declared.pos.Pos.{Pos}
use Rattle.cat_region.specs.Regions.{Constraints}
use Rattle.cat_scope.specs.Names.{AllHave}
use Rattle.cat_guard.specs.declared.table.Table.{Table}
use Rattle.cat_guard.specs.declared.table.TableTarget.{TableTarget}
use Rattle.cat_guard.specs.Trees.{Tree, expanded}
use Rattle.cat_guard.specs.Trees as tree
use Rattle.cat_guard.proofs.Exported.{both_true}
use Rattle.cat_walk.specs.LeafPlaces.{lists_of}
use Rattle.cat_walk.specs.Walkable.{IsWalkable, splits_pass}
use Rattle.cat_cert.specs.declared.certificate.CertTree.{CertTree}
use Rattle.cat_cert.specs.declared.certificate.Version.TheVariants as version
use Rattle.cat_cert.specs.declared.refusal.CertRefusal.{CertRefusal}
use Rattle.cat_cert.specs.Certified.{is_atom_of}
use Rattle.cat_cert.specs.Lines.{TargetDue}
use Rattle.cat_cert.specs.ReadTrees.{AreReadTrees, AreWithin}
use Rattle.cat_cert.specs.Uncovered.{everything}
use Rattle.cat_cert.specs.Heights.{IsLow, IsUpTo}
use Rattle.cat_cert.specs.inside.Checkable.{last_line, IsCheckable, NamesFirst}
use Rattle.cat_cert.proofs.Lists.{drop_at, have_at}
use Rattle.cat_cert.proofs.TableLemmas.{SplitAsWritten, AtomsAreThere, below_test, count_trees, first_front}
use Rattle.cat_dead.specs.Winners.{AreKnown, tree_open, targets_open, tree_winners, targets_winners}
use Rattle.cat_dead.specs.Winners.{winners_of}
use Rattle.cat_dead.specs.inside.Plain.{IsPlain, IsWhole}
use Rattle.cat_dead.specs.inside.Told.{IsAdded}

-- ---- splits

splits_further : (p q : ℕ → Bool) → ((a : ℕ) → p a ≡ true → q a ≡ true) → (w : Tree) → splits_pass p w ≡ true
    → splits_pass q w ≡ true
splits_further p q each tree.Leaf is = refl
splits_further p q each tree.Rest is = refl
splits_further p q each (tree.Split a left right) is =
    let two = both_true (p a && splits_pass p left) (splits_pass p right) is in
    let one = both_true (p a) (splits_pass p left) two.0 in
    rw (each a one.0, splits_further p q each left one.1) (splits_further p q each right two.1)

-- ---- trees of version 1

-- a tree of version 1 names no part, and is written behind one line
plain_read : (c : CertTree) → c.tree.names ≡ [] → AreWithin last_line c.heads (lists_of c.tree) → IsPlain c
plain_read c none within =
    (none, by c.heads (subst (AreWithin last_line c.heads) (ap (λ ns. ns ++ c.tree.main ∷ []) none) within))
  where
    by : (heads : List ℕ) → AreWithin last_line heads (c.tree.main ∷ []) → (head : ℕ) × (heads ≡ head ∷ [])
    by [] w = absurd (w)
    by (h ∷ []) w = (h, refl)
    by (h ∷ k ∷ hs) w = absurd (w.1)

-- ---- the trees of the targets

-- the trees of the first targets, of that number, were walked: none of their leaves is open, and these are the winners
pub record IsOnWay (table : Table) (cs : List CertTree) (at : ℕ) (region : Constraints) (won : List Pos) : Type 0 where
  pub whole : IsWhole table region
  pub low : AllHave (IsUpTo region.room) cs
  pub rest : AreReadTrees last_line version.One (map TargetDue (drop at table.targets)) (drop at cs)
  pub count : length cs ≡ length table.targets
  pub lines : targets_open table.atoms (everything table.terms) (drop at table.targets) (drop at cs)
      ≡ targets_open table.atoms (everything table.terms) table.targets cs
  pub known : AreKnown table.atoms (everything table.terms) (drop at table.targets) (drop at cs)
      → AreKnown table.atoms (everything table.terms) table.targets cs
  pub winners : won ++ targets_winners table.atoms (everything table.terms) (drop at table.targets) (drop at cs)
      ≡ targets_winners table.atoms (everything table.terms) table.targets cs

pub starts : (table : Table) (cs : List CertTree) (region : Constraints)
    → AreReadTrees last_line version.One (map TargetDue table.targets) cs → IsWhole table region
    → AllHave (IsUpTo region.room) cs → IsOnWay table cs 0 region []
starts table cs region are whole low = record {
  whole = whole;
  low = low;
  rest = are;
  count = count_trees last_line version.One table.targets cs are;
  lines = refl;
  known = λ are. are;
  winners = refl;
}

-- all were walked
module _ (table : Table) (cs : List CertTree) (at : ℕ) (region : Constraints) (won : List Pos)
    (on : IsOnWay table cs at region won) (past : length cs ≤ at) where
  no_target : drop at table.targets ≡ []
  no_target = let count = on.count in drop_all at table.targets (omega (arith, count, past))

  pub all_known : AreKnown table.atoms (everything table.terms) table.targets cs
  all_known =
      on.known (subst (λ (ts : List TableTarget). AreKnown table.atoms (everything table.terms) ts (drop at cs))
      (sym no_target) tt)

  pub all_won : won ≡ winners_of table cs
  all_won =
      sym (append-nil won)
      ∙ ap (λ (ts : List TableTarget). won ++ targets_winners table.atoms (everything table.terms) ts (drop at cs))
      (sym no_target)
      ∙ on.winners

module _ (table : Table) (cs : List CertTree) (at : ℕ) (region : Constraints) (won : List Pos)
    (on : IsOnWay table cs at region won) (t : TableTarget) (c : CertTree)
    (t_at : slice_get table.targets at ≡ Some t) (c_at : slice_get cs at ≡ Some c) where
  here :
      AreReadTrees last_line version.One (TargetDue t ∷ map TargetDue (drop (suc at) table.targets))
      (c ∷ drop (suc at) cs)
  here =
      subst (λ ts. AreReadTrees last_line version.One (map TargetDue ts) (c ∷ drop (suc at) cs))
      (drop_at table.targets at t t_at)
      (subst (λ us. AreReadTrees last_line version.One (map TargetDue (drop at table.targets)) us)
      (drop_at cs at c c_at) on.rest)

  -- the next tree can be walked
  pub checkable : SplitAsWritten → AtomsAreThere → IsCheckable (length table.atoms) region.room c × IsPlain c
  checkable splits there =
      let read = here.0.is_tree in
      let low : IsLow region.room (Some read.whole) =
      subst (λ o. IsLow region.room o) read.stands (have_at (IsUpTo region.room) cs at c c_at on.low) in
      let below = have_at (λ u. (a : ℕ) → IsTrue (is_atom_of u a) → a < length table.atoms) table.targets at t t_at
      (there table) in
      let own = splits (is_atom_of t) c.tree read.whole read.stands read.splits in (
        record {
          walkable = subst (λ o. IsWalkable (length table.atoms) region.room o) (sym read.stands) (
            splits_further (is_atom_of t) (λ a. nat_lt a (length table.atoms))
                (λ a is. below_test a (length table.atoms) (below a is)) read.whole own,
            low,
          );
          within = here.0.within;
        },
        plain_read c here.0.is_tree.names here.0.within,
      )

  abbrev open_here : List ℕ
  open_here = tree_open table.atoms (everything table.terms) t c

  abbrev open_behind : List ℕ
  open_behind = targets_open table.atoms (everything table.terms) (drop (suc at) table.targets) (drop (suc at) cs)

  both_dropped : {A : Type 0} (f : List TableTarget → List CertTree → A)
      → f (drop at table.targets) (drop at cs) ≡ f (t ∷ drop (suc at) table.targets) (c ∷ drop (suc at) cs)
  both_dropped f =
      ap (λ ts. f ts (drop at cs)) (drop_at table.targets at t t_at)
      ∙ ap (f (t ∷ drop (suc at) table.targets)) (drop_at cs at c c_at)

  here_lines : open_here ++ open_behind ≡ targets_open table.atoms (everything table.terms) table.targets cs
  here_lines = sym (both_dropped (targets_open table.atoms (everything table.terms))) ∙ on.lines

  -- its winners are added
  pub goes_on : (next : List Pos) → IsAdded table t c won next (Ok tt) → IsOnWay table cs (suc at) region next
  goes_on next added = record {
    whole = on.whole;
    low = on.low;
    rest = here.1;
    count = on.count;
    lines = ap (λ ns. ns ++ open_behind) (sym added.0) ∙ here_lines;
    known = λ rest. on.known
        (subst (λ (ts : List TableTarget). AreKnown table.atoms (everything table.terms) ts (drop at cs))
        (sym (drop_at table.targets at t t_at))
        (subst (AreKnown table.atoms (everything table.terms) (t ∷ drop (suc at) table.targets))
        (sym (drop_at cs at c c_at)) (added.1, rest)));
    winners =
        ap (λ ps. ps ++ targets_winners table.atoms (everything table.terms) (drop (suc at) table.targets)
        (drop (suc at) cs)) added.2
        ∙ append_assoc won (tree_winners table.atoms (everything table.terms) t c)
        (targets_winners table.atoms (everything table.terms) (drop (suc at) table.targets) (drop (suc at) cs))
        ∙ ap (λ ps. won ++ ps) (sym (both_dropped (targets_winners table.atoms (everything table.terms))))
        ∙ on.winners;
  }

  -- one is
  pub stops : (why : CertRefusal) → NamesFirst (tree_open table.atoms (everything table.terms) t c) why
      → NamesFirst (targets_open table.atoms (everything table.terms) table.targets cs) why
  stops why is = subst (λ ns. NamesFirst ns why) here_lines (first_front open_here open_behind why is)
