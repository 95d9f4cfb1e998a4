-- How far the trees of a table were checked, and those of all tables.
use Rattle.std.proofs.Common.{◌≡◌, ℕ, zero, suc, ◌+◌, ◌-◌, ◌<◌, nat_lt, Bool, true, IsTrue}
use Rattle.std.proofs.Common.{List, [], ◌∷◌, ◌++◌, map, take, drop, length, Some, slice_get}
use Rattle.std.proofs.Common.{refl, sym, ap, ◌∙◌, subst, arith, length-append}
use Rattle.std.specs.List.{list_all, slice_range}
use Rattle.std.proofs.lemmas.List.{drop-drop}
use Rattle.std.proofs.lemmas.Bool.Decides.{nat_tests}
use Rattle.cat_region.specs.Regions.{Constraints}
use Rattle.cat_scope.specs.Names.{AllHave}
use Rattle.cat_guard.specs.declared.table.Atom.{Atom}
use Rattle.cat_guard.specs.declared.table.Table.{Table}
use Rattle.cat_guard.specs.declared.table.TableTarget.{TableTarget}
use Rattle.cat_guard.specs.declared.tree.CitedNode.{CitedNode}
use Rattle.cat_guard.specs.declared.tree.CitedNode.TheVariants as cited
use Rattle.cat_guard.specs.declared.tree.CitedTree.{CitedTree}
use Rattle.cat_guard.specs.Trees.{Tree, Closed, IsCitedClosed, expanded}
use Rattle.cat_guard.proofs.Exported.{both_true}
use Rattle.cat_cert.specs.Uncovered.{everything}
use Rattle.cat_walk.specs.Walkable.{IsWalkable, nodes_pass, splits_pass}
use Rattle.cat_walk.specs.LeafPlaces.{lists_of}
use Rattle.cat_cert.specs.declared.certificate.Version.{Version}
use Rattle.cat_cert.specs.declared.certificate.CertTree.{CertTree}
use Rattle.cat_cert.specs.declared.refusal.CertRefusal.{CertRefusal}
use Rattle.cat_cert.specs.declared.refusal.CertRefusal.TheVariants as refusal
use Rattle.cat_cert.specs.Lines.{Due, TargetDue, dues_of, targets_of}
use Rattle.cat_cert.specs.Certified.{is_atom_of}
use Rattle.cat_cert.specs.ReadTrees.{AreReadTrees}
use Rattle.cat_cert.specs.Uncovered.{IsCovered, AreCovered, AllCovered, tree_uncovered, targets_uncovered}
use Rattle.cat_cert.specs.Uncovered.{uncovered}
use Rattle.cat_cert.specs.Checked.{HasClosedTree}
use Rattle.cat_cert.specs.Heights.{IsLow, IsUpTo}
use Rattle.cat_cert.specs.inside.Checkable.{last_line, AreOfTable, AreOfTables, IsCheckable, NamesFirst}
use Rattle.cat_cert.specs.inside.Checkable.{found_in}
use Rattle.cat_cert.proofs.Lists.{drop_at, have_at, have_taken}
use Rattle.cat_cert.proofs.RoomLemmas.{with_room, lines_same, covered_same}
use Rattle.cat_cert.proofs.CheckLemmas.{lines_none}

-- ---- trees split on atoms of the table

pub below_test : (a n : ℕ) → a < n → nat_lt a n ≡ true
below_test a n h = grind (arith, nat_tests, h)

passes_further : (p q : ℕ → Bool) → ((a : ℕ) → p a ≡ true → q a ≡ true) → (ns : List CitedNode)
    → nodes_pass p ns ≡ true → nodes_pass q ns ≡ true
passes_further p q each [] is = refl
passes_further p q each (cited.Leaf ∷ ns) is = passes_further p q each ns is
passes_further p q each (cited.Cite i ∷ ns) is = passes_further p q each ns is
passes_further p q each (cited.Split a ∷ ns) is =
    let two = both_true (p a) (nodes_pass p ns) is in
    rw (each a two.0) (passes_further p q each ns two.1)

lists_further : (p q : ℕ → Bool) → ((a : ℕ) → p a ≡ true → q a ≡ true) → (lists : List (List CitedNode))
    → list_all (nodes_pass p) lists ≡ true → list_all (nodes_pass q) lists ≡ true
lists_further p q each [] is = refl
lists_further p q each (nodes ∷ lists) is =
    let two = both_true (nodes_pass p nodes) (list_all (nodes_pass p) lists) is in
    rw (passes_further p q each nodes two.0) (lists_further p q each lists two.1)

-- ---- the trees of the first targets, and the others

pub front_trees : (most : ℕ) (v : Version) (ts : List TableTarget) (dues : List Due) (cs : List CertTree)
    → AreReadTrees most v (map TargetDue ts ++ dues) cs → AreReadTrees most v (map TargetDue ts) (take (length ts) cs)
front_trees most v [] dues cs are = tt
front_trees most v (t ∷ ts) dues [] are = absurd (are)
front_trees most v (t ∷ ts) dues (c ∷ cs) are = (are.0, front_trees most v ts dues cs are.1)

pub rest_trees : (most : ℕ) (v : Version) (ts : List TableTarget) (dues : List Due) (cs : List CertTree)
    → AreReadTrees most v (map TargetDue ts ++ dues) cs → AreReadTrees most v dues (drop (length ts) cs)
rest_trees most v [] dues cs are = are
rest_trees most v (t ∷ ts) dues [] are = absurd (are)
rest_trees most v (t ∷ ts) dues (c ∷ cs) are = rest_trees most v ts dues cs are.1

front_uncovered : (atoms : List Atom) (region : Constraints) (ts : List TableTarget) (cs : List CertTree)
    → targets_uncovered atoms region ts (take (length ts) cs) ≡ targets_uncovered atoms region ts cs
front_uncovered atoms region [] cs = refl
front_uncovered atoms region (t ∷ ts) [] = refl
front_uncovered atoms region (t ∷ ts) (c ∷ cs) =
    ap (λ ns. tree_uncovered atoms region t c ++ ns) (front_uncovered atoms region ts cs)

none_uncovered : (atoms : List Atom) (region : Constraints) (ts : List TableTarget) (cs : List CertTree)
    → AreCovered atoms region ts (found_in cs) → targets_uncovered atoms region ts cs ≡ []
none_uncovered atoms region [] cs are = refl
none_uncovered atoms region (t ∷ ts) [] are = absurd (are)
none_uncovered atoms region (t ∷ ts) (c ∷ cs) are =
    ap (λ ns. ns ++ targets_uncovered atoms region ts cs) (lines_none atoms t region c are.0)
    ∙ none_uncovered atoms region ts cs are.1

front_covered : (atoms : List Atom) (region : Constraints) (ts : List TableTarget) (cs : List CertTree)
    → AreCovered atoms region ts (found_in (take (length ts) cs)) → AreCovered atoms region ts (found_in cs)
front_covered atoms region [] cs are = tt
front_covered atoms region (t ∷ ts) [] are = absurd (are)
front_covered atoms region (t ∷ ts) (c ∷ cs) are = (are.0, front_covered atoms region ts cs are.1)

found_dropped : (n : ℕ) (cs : List CertTree) → found_in (drop n cs) ≡ drop n (found_in cs)
found_dropped zero cs = refl
found_dropped (suc n) [] = refl
found_dropped (suc n) (c ∷ cs) = found_dropped n cs

pub count_trees : (most : ℕ) (v : Version) (ts : List TableTarget) (cs : List CertTree)
    → AreReadTrees most v (map TargetDue ts) cs → length cs ≡ length ts
count_trees most v [] [] are = refl
count_trees most v [] (c ∷ cs) are = absurd (are)
count_trees most v (t ∷ ts) [] are = absurd (are)
count_trees most v (t ∷ ts) (c ∷ cs) are = ap suc (count_trees most v ts cs are.1)

count_front : (most : ℕ) (v : Version) (ts : List TableTarget) (dues : List Due) (cs : List CertTree)
    → AreReadTrees most v (map TargetDue ts ++ dues) cs → length cs ≡ length ts + length (drop (length ts) cs)
count_front most v [] dues cs are = omega arith
count_front most v (t ∷ ts) dues [] are = absurd (are)
count_front most v (t ∷ ts) dues (c ∷ cs) are = let rest = count_front most v ts dues cs are.1 in omega (arith, rest)

pub count_all : (most : ℕ) (v : Version) (tables : List Table) (cs : List CertTree)
    → AreReadTrees most v (dues_of tables) cs → length cs ≡ length (targets_of tables)
count_all most v [] [] are = refl
count_all most v [] (c ∷ cs) are = absurd (are)
count_all most v (table ∷ tables) cs are =
    let front = count_front most v table.targets (dues_of tables) cs are in
    let rest = count_all most v tables (drop (length table.targets) cs)
    (rest_trees most v table.targets (dues_of tables) cs are) in
    let both = length-append table.targets (targets_of tables) in
    omega (arith, front, rest, both)

-- where all are covered, no line is named
pub all_none : (tables : List Table) (cs : List CertTree) → AllCovered tables (found_in cs) → uncovered tables cs ≡ []
all_none [] cs are = refl
all_none (table ∷ tables) cs are =
    ap (λ ns. ns ++ uncovered tables (drop (length table.targets) cs))
    (none_uncovered table.atoms (everything table.terms) table.targets cs are.0)
    ∙ all_none tables (drop (length table.targets) cs)
    (subst (AllCovered tables) (sym (found_dropped (length table.targets) cs)) are.1)

-- ---- what was found

pub first_front : (xs ys : List ℕ) (why : CertRefusal) → NamesFirst xs why → NamesFirst (xs ++ ys) why
first_front xs ys (refusal.NotCovered n) is = (is.0 ++ ys, ap (λ ns. ns ++ ys) is.1)
first_front xs ys refusal.Memory is = tt
first_front xs ys (refusal.BadLine n) is = absurd (is)
first_front xs ys (refusal.WrongName n) is = absurd (is)
first_front xs ys refusal.Short is = absurd (is)
first_front xs ys (refusal.Trailing n) is = absurd (is)
first_front xs ys (refusal.TooWide n) is = absurd (is)

-- ---- the trees of one table

-- the first of a table's trees, of that number, are closed, and the others are still to be checked
pub record IsUnderWay (table : Table) (cs : List CertTree) (at : ℕ) (region : Constraints) : Type 0 where
  pub room : ℕ
  pub region_is : region ≡ with_room room (everything table.terms)
  pub low : AllHave (IsUpTo room) cs
  pub v : Version
  pub rest : AreReadTrees last_line v (map TargetDue (drop at table.targets)) (drop at cs)
  pub count : length cs ≡ length table.targets
  pub lines : targets_uncovered table.atoms (everything table.terms) (drop at table.targets) (drop at cs)
      ≡ targets_uncovered table.atoms (everything table.terms) table.targets cs
  pub covered : AreCovered table.atoms (everything table.terms) (drop at table.targets) (found_in (drop at cs))
      → AreCovered table.atoms (everything table.terms) table.targets (found_in cs)
  pub closed : AllHave (HasClosedTree table) (take at table.targets)

abbrev pub starts : (table : Table) (cs : List CertTree) (room : ℕ) (region : Constraints) → AreOfTable table cs
    → AllHave (IsUpTo room) cs → region ≡ with_room room (everything table.terms) → IsUnderWay table cs 0 region
starts table cs room region are low is = record {
  room = room;
  region_is = is;
  low = low;
  v = are.0;
  rest = are.1;
  count = count_trees last_line are.0 table.targets cs are.1;
  lines = refl;
  covered = λ are. are;
  closed = tt;
}

-- what the laws of trees say
abbrev pub SplitAsWritten : Type 0
SplitAsWritten = (pass : ℕ → Bool) (c : CitedTree) (t : Tree) → expanded c ≡ Some t
    → IsTrue (list_all (nodes_pass pass) (lists_of c)) → IsTrue (splits_pass pass t)

abbrev pub AtomsAreThere : Type 0
AtomsAreThere = (table : Table)
    → AllHave (λ t. (a : ℕ) → IsTrue (is_atom_of t a) → a < length table.atoms) table.targets

abbrev pub RoomClosesNone : Type 0
RoomClosesNone = (atoms : List Atom) (t : TableTarget) (region : Constraints) (other : Constraints) (tree : Tree)
    → region.dims ≡ other.dims → region.narrowings ≡ other.narrowings → Closed atoms t region tree
    → Closed atoms t other tree

module _ (table : Table) (cs : List CertTree) (at : ℕ) (region : Constraints) (on : IsUnderWay table cs at region)
    (t : TableTarget) (c : CertTree) (t_at : slice_get table.targets at ≡ Some t)
    (c_at : slice_get cs at ≡ Some c) where
  here : AreReadTrees last_line on.v (TargetDue t ∷ map TargetDue (drop (suc at) table.targets)) (c ∷ drop (suc at) cs)
  here =
      subst (λ ts. AreReadTrees last_line on.v (map TargetDue ts) (c ∷ drop (suc at) cs))
      (drop_at table.targets at t t_at)
      (subst (λ us. AreReadTrees last_line on.v (map TargetDue (drop at table.targets)) us)
      (drop_at cs at c c_at) on.rest)

  here_lines : tree_uncovered table.atoms (everything table.terms) t c
      ++ targets_uncovered table.atoms (everything table.terms) (drop (suc at) table.targets) (drop (suc at) cs)
      ≡ targets_uncovered table.atoms (everything table.terms) table.targets cs
  here_lines =
      sym (ap (λ ts. targets_uncovered table.atoms (everything table.terms) ts (drop at cs))
      (drop_at table.targets at t t_at)
      ∙ ap (targets_uncovered table.atoms (everything table.terms) (t ∷ drop (suc at) table.targets))
      (drop_at cs at c c_at)) ∙ on.lines

  -- the next tree can be walked
  pub checkable : SplitAsWritten → AtomsAreThere → IsCheckable (length table.atoms) region.room c
  checkable splits there =
      let tree = here.0.is_tree in
      let low : IsLow on.room (Some tree.whole) =
      subst (λ o. IsLow on.room o) tree.stands (have_at (IsUpTo on.room) cs at c c_at on.low) in
      let room : region.room ≡ on.room = ap (λ (r : Constraints). r.room) on.region_is in
      let below = have_at (λ u. (a : ℕ) → IsTrue (is_atom_of u a) → a < length table.atoms) table.targets at t t_at
      (there table) in
      let written = lists_further (is_atom_of t) (λ a. nat_lt a (length table.atoms))
      (λ a is. below_test a (length table.atoms) (below a is)) (lists_of c.tree) tree.splits in
      record {
        walkable = subst (λ o. IsWalkable (length table.atoms) region.room o) (sym tree.stands) (
          splits (λ a. nat_lt a (length table.atoms)) c.tree tree.whole tree.stands written,
          omega (arith, low, room),
        );
        within = here.0.within;
      }

  -- its lines are those in the region that admits every valuation
  pub here_same : tree_uncovered table.atoms region t c ≡ tree_uncovered table.atoms (everything table.terms) t c
  here_same =
      ap (λ r. tree_uncovered table.atoms r t c) on.region_is
      ∙ lines_same on.room table.atoms (everything table.terms) t c

  -- it is covered
  pub goes_on : RoomClosesNone → IsCovered table.atoms region t (expanded c.tree)
      → IsCitedClosed table.atoms t region c.tree → IsUnderWay table cs (suc at) region
  goes_on rooms covered closed =
      let dims : region.dims ≡ (everything table.terms).dims = ap (λ (r : Constraints). r.dims) on.region_is in
      let narrowings : region.narrowings ≡ (everything table.terms).narrowings =
      ap (λ (r : Constraints). r.narrowings) on.region_is in
      let is_covered : IsCovered table.atoms (everything table.terms) t (expanded c.tree) =
      covered_same on.room table.atoms (everything table.terms) t (expanded c.tree)
      (subst (λ r. IsCovered table.atoms r t (expanded c.tree)) on.region_is covered) in
      record {
        room = on.room;
        region_is = on.region_is;
        low = on.low;
        v = on.v;
        rest = here.1;
        count = on.count;
        lines =
            ap (λ ns. ns ++ targets_uncovered table.atoms (everything table.terms) (drop (suc at) table.targets)
            (drop (suc at) cs)) (sym (lines_none table.atoms t (everything table.terms) c is_covered)) ∙ here_lines;
        covered = λ rest. on.covered
            (subst (λ ts. AreCovered table.atoms (everything table.terms) ts (found_in (drop at cs)))
            (sym (drop_at table.targets at t t_at))
            (subst (λ us. AreCovered table.atoms (everything table.terms) (t ∷ drop (suc at) table.targets)
            (found_in us))
            (sym (drop_at cs at c c_at)) (is_covered, rest)));
        closed = have_taken (HasClosedTree table) table.targets at t t_at (
          c.tree,
          (closed.0, closed.1, rooms table.atoms t region (everything table.terms) closed.0 dims narrowings closed.2),
        ) on.closed;
      }

  -- it isn't
  pub stops : (why : CertRefusal) → NamesFirst (tree_uncovered table.atoms region t c) why
      → NamesFirst (targets_uncovered table.atoms (everything table.terms) table.targets cs) why
  stops why is =
      subst (λ ns. NamesFirst ns why) here_lines
      (first_front (tree_uncovered table.atoms (everything table.terms) t c)
      (targets_uncovered table.atoms (everything table.terms) (drop (suc at) table.targets) (drop (suc at) cs)) why
      (subst (λ ns. NamesFirst ns why) here_same is))

-- ---- the trees of all tables

-- so far the first of the tables, of that number, were checked, with the first trees
pub record IsOnWay (tables : List Table) (cs : List CertTree) (k at : ℕ) : Type 0 where
  pub v : Version
  pub left : at + length (targets_of (drop k tables)) ≡ length cs
  pub rest : AreReadTrees last_line v (dues_of (drop k tables)) (drop at cs)
  pub lines : uncovered (drop k tables) (drop at cs) ≡ uncovered tables cs
  pub covered : AllCovered (drop k tables) (found_in (drop at cs)) → AllCovered tables (found_in cs)
  pub closed : AllHave (λ table. AllHave (HasClosedTree table) table.targets) (take k tables)

abbrev pub tables_start : (tables : List Table) (cs : List CertTree) → AreOfTables tables cs → IsOnWay tables cs 0 0
tables_start tables cs are = record {
  v = are.0;
  left = let count = count_all last_line are.0 tables cs are.1 in omega (arith, count);
  rest = are.1;
  lines = refl;
  covered = λ all. all;
  closed = tt;
}

module _ (tables : List Table) (cs : List CertTree) (k at : ℕ) (on : IsOnWay tables cs k at) (table : Table)
    (table_at : slice_get tables k ≡ Some table) (end : ℕ) (end_is : end ≡ at + length table.targets) where
  next_due : AreReadTrees last_line on.v (map TargetDue table.targets ++ dues_of (drop (suc k) tables)) (drop at cs)
  next_due =
      subst (λ ts. AreReadTrees last_line on.v (dues_of ts) (drop at cs)) (drop_at tables k table table_at) on.rest

  part_is : slice_range cs at end ≡ take (length table.targets) (drop at cs)
  part_is = let size : end - at ≡ length table.targets = omega (arith, end_is) in ap (λ n. take n (drop at cs)) size

  rest_is : drop (length table.targets) (drop at cs) ≡ drop end cs
  rest_is = drop-drop (length table.targets) at cs ∙ ap (λ n. drop n cs) (sym end_is)

  pub next_of : AreOfTable table (slice_range cs at end)
  next_of = (
    on.v,
    subst (λ us. AreReadTrees last_line on.v (map TargetDue table.targets) us) (sym part_is)
        (front_trees last_line on.v table.targets (dues_of (drop (suc k) tables)) (drop at cs) next_due),
  )

  next_lines : targets_uncovered table.atoms (everything table.terms) table.targets (slice_range cs at end)
      ++ uncovered (drop (suc k) tables) (drop end cs) ≡ uncovered tables cs
  next_lines =
      ap (λ us. targets_uncovered table.atoms (everything table.terms) table.targets us
      ++ uncovered (drop (suc k) tables) (drop end cs)) part_is
      ∙ ap (λ ns. ns ++ uncovered (drop (suc k) tables) (drop end cs))
      (front_uncovered table.atoms (everything table.terms) table.targets (drop at cs))
      ∙ ap (λ us. targets_uncovered table.atoms (everything table.terms) table.targets (drop at cs)
      ++ uncovered (drop (suc k) tables) us) (sym rest_is)
      ∙ ap (λ ts. uncovered ts (drop at cs)) (sym (drop_at tables k table table_at)) ∙ on.lines

  next_none : AreCovered table.atoms (everything table.terms) table.targets (found_in (slice_range cs at end))
      → targets_uncovered table.atoms (everything table.terms) table.targets (slice_range cs at end) ≡ []
  next_none = none_uncovered table.atoms (everything table.terms) table.targets (slice_range cs at end)

  next_covered : AreCovered table.atoms (everything table.terms) table.targets (found_in (slice_range cs at end))
      → AreCovered table.atoms (everything table.terms) table.targets (found_in (drop at cs))
  next_covered are =
      front_covered table.atoms (everything table.terms) table.targets (drop at cs)
      (subst (λ us. AreCovered table.atoms (everything table.terms) table.targets (found_in us)) part_is are)

  pub next_done : AreCovered table.atoms (everything table.terms) table.targets (found_in (slice_range cs at end))
      → AllHave (HasClosedTree table) table.targets → IsOnWay tables cs (suc k) end
  next_done are closed = record {
    v = on.v;
    left =
        let first : length (targets_of (drop k tables))
        ≡ length table.targets + length (targets_of (drop (suc k) tables)) =
        ap (λ ts. length (targets_of ts)) (drop_at tables k table table_at)
        ∙ length-append table.targets (targets_of (drop (suc k) tables)) in
        let before = on.left in
        omega (arith, first, before, end_is);
    rest = subst (λ us. AreReadTrees last_line on.v (dues_of (drop (suc k) tables)) us) rest_is
        (rest_trees last_line on.v table.targets (dues_of (drop (suc k) tables)) (drop at cs) next_due);
    lines = ap (λ ns. ns ++ uncovered (drop (suc k) tables) (drop end cs)) (sym (next_none are)) ∙ next_lines;
    covered = λ rest. on.covered
        (subst (λ ts. AllCovered ts (found_in (drop at cs))) (sym (drop_at tables k table table_at)) (
          next_covered are,
          subst (λ found. AllCovered (drop (suc k) tables) found)
              (ap found_in (sym rest_is) ∙ found_dropped (length table.targets) (drop at cs)) rest,
        ));
    closed =
        have_taken (λ u. AllHave (HasClosedTree u) u.targets) tables k table table_at closed on.closed;
  }

  pub next_stops : (why : CertRefusal)
      → NamesFirst (targets_uncovered table.atoms (everything table.terms) table.targets (slice_range cs at end)) why
      → NamesFirst (uncovered tables cs) why
  next_stops why is =
      subst (λ ns. NamesFirst ns why) next_lines
      (first_front (targets_uncovered table.atoms (everything table.terms) table.targets (slice_range cs at end))
      (uncovered (drop (suc k) tables) (drop end cs)) why is)
