-- A walk goes on from one node to the next.
use Rattle.std.proofs.Common.{◌≡◌, ℕ, ◌+◌, ◌<◌, Bool, true, false, not, ◌||◌}
use Rattle.std.proofs.Common.{if◌then◌else◌, List, [], ◌∷◌, length, Option, Some, None, Result, Ok, Err}
use Rattle.std.proofs.Common.{slice_get}
use Rattle.std.proofs.Common.{IfSome, refl, sym, ap, ◌∙◌, subst, arith, append-nil}
use Rattle.std.specs.List.{list_any}
use Rattle.cat_region.specs.declared.narrowing.Narrowing.{Narrowing}
use Rattle.cat_region.specs.Regions.{Constraints}
use Rattle.cat_region.specs.Decided.{admits_none}
use Rattle.cat_region.specs.Sides.{along, turns, Turns}
use Rattle.cat_region.proofs.Exported.{along_dims, none_alike}
use Rattle.cat_guard.specs.declared.table.Atom.{Atom}
use Rattle.cat_guard.specs.declared.table.TableTarget.{TableTarget}
use Rattle.cat_guard.specs.declared.tree.TreeNode.TheVariants as node
use Rattle.cat_guard.specs.Judged.{answers_in, covers}
use Rattle.cat_guard.specs.Trees.{Tree, node_before, answering}
use Rattle.cat_guard.specs.Trees as tree
use Rattle.cat_guard.specs.Verdicts.{verdict_of}
use Rattle.cat_guard.proofs.Exported.{answers_alike}
use Rattle.cat_walk.specs.declared.place.NodePlace.{NodePlace}
use Rattle.cat_walk.specs.declared.refusal.WalkRefusal.{WalkRefusal}
use Rattle.cat_walk.specs.declared.refusal.WalkRefusal.TheVariants as why
use Rattle.cat_walk.specs.declared.meeting.Met.{Met}
use Rattle.cat_walk.specs.declared.meeting.Met.TheVariants as met
use Rattle.cat_walk.specs.Coverage.{leaf_regions, is_uncovered, first_place, Answers, AnswersOf}
use Rattle.cat_walk.specs.Walkable.{IsWalkable}
use Rattle.cat_walk.specs.inside.Walking.{uncovered_at, trees_met, leaves_met, regions_along, AreFit, IsUnderWay}
use Rattle.cat_guard.specs.declared.tree.CitedTree.{CitedTree}
use Rattle.cat_guard.specs.Trees.{expanded}
use Rattle.cat_walk.specs.LeafPlaces.{lists_of, leaf_places}
use Rattle.cat_walk.specs.inside.Meetings.{are_earlier, start_of, met_in_list, to_come}
use Rattle.cat_walk.proofs.StandLemmas.{MakesSome, stands}
use Rattle.cat_walk.proofs.Lists.{there}
use Rattle.cat_walk.proofs.SplitLemmas.{IsAtSplit, IsDown, at_split}

-- ---- what is covered doesn't hang on the room

pub uncovered_alike : (atoms : List Atom) (o : Option TableTarget) (region other : Constraints)
    → region.dims ≡ other.dims → region.narrowings ≡ other.narrowings
    → uncovered_at atoms o region ≡ uncovered_at atoms o other
uncovered_alike atoms None region other dims narrowings = refl
uncovered_alike atoms (Some t) region other dims narrowings =
    ap (λ b. not (b || covers t.may_be_empty (verdict_of t (answers_in atoms region))))
    (none_alike region other dims narrowings)
    ∙ ap (λ answers. not (admits_none other || covers t.may_be_empty (verdict_of t answers)))
    (answers_alike atoms region other dims narrowings)

-- ---- a target's answer is that of the target of its number

pub told_of : (atoms : List Atom) (o : Option TableTarget) (region : Constraints) (places : List NodePlace)
    (t : Option Tree) (answer : Result (Unit {0}) WalkRefusal)
    → AnswersOf (uncovered_at atoms o) atoms region places t answer
    → IfSome o (λ target. AnswersOf (is_uncovered atoms target) atoms region places t answer)
told_of atoms None region places t answer told = tt
told_of atoms (Some target) region places t answer told = told

-- ---- trees of what is met

pub record IsLeaf (o : Option (List Tree)) (trees : List Tree) : Type 0 where
  pub rest : List Tree
  pub is : o ≡ Some rest
  pub same : trees ≡ tree.Leaf ∷ rest

pub leaf_there : (o : Option (List Tree)) (trees : List Tree) → node_before node.Leaf o ≡ Some trees → IsLeaf o trees
leaf_there None trees h = absurd (cc)
leaf_there (Some rest) trees h = record { rest = rest; is = refl; same = cc }

-- the tree at the end of a path is passed: whatever answers for the leaves of the others is told of all
pub record IsPassed (atoms : List Atom) (test : Constraints → Bool) (base : Constraints)
    (Told : Result (Unit {0}) WalkRefusal → Type 0) (path : List Narrowing) (ms : List Met) : Type 0 where
  pub rest : List Tree
  pub made : trees_met ms ≡ Some rest
  pub fit : AreFit (length atoms) base.room (turns path) rest
  pub told : (answer : Result (Unit {0}) WalkRefusal)
      → Answers test (leaves_met ms) (regions_along atoms base (turns path) rest) answer → Told answer

-- ---- the steps of a walk

module _ (atoms : List Atom) (o : Option TableTarget) (base : Constraints)
    (Told : Result (Unit {0}) WalkRefusal → Type 0) where
  abbrev test : Constraints → Bool
  test = uncovered_at atoms o

  -- a walk is under way in a region, before what is to come
  abbrev pub GoesOn : Constraints → List Met → Type 0
  GoesOn region ms = IsUnderWay atoms test base Told region ms

  pub begins : (t : Tree) (ms : List Met) → IsWalkable (length atoms) base.room (Some t)
      → trees_met ms ≡ Some (t ∷ [])
      → ((answer : Result (Unit {0}) WalkRefusal) → Answers test (leaves_met ms) (leaf_regions atoms base t) answer
      → Told answer) → GoesOn base ms
  begins t ms walkable makes told = record {
    path = [];
    trees = t ∷ [];
    here = record { dims = refl; narrowings = refl; room = omega arith };
    made = makes;
    fit = (record { splits = walkable.0; low = let high = walkable.1 in omega (arith, high) }, tt);
    rest = λ answer all. told answer (subst (λ (rs : List Constraints). Answers test (leaves_met ms) rs answer)
        (append-nil (leaf_regions atoms base t)) all);
  }

  -- a tree is passed in a region at the end of a path
  abbrev pub Passes : List Narrowing → List Met → Type 0
  Passes path ms = IsPassed atoms test base Told path ms

  pub goes_in : (region : Constraints) (i : ℕ) (ms : List Met) → GoesOn region (met.Cite i ∷ ms) → GoesOn region ms
  goes_in region i ms walk = record {
    path = walk.path;
    trees = walk.trees;
    here = walk.here;
    made = walk.made;
    fit = walk.fit;
    rest = walk.rest;
  }

  -- behind a tree that is passed
  module _ (path : List Narrowing) (ms : List Met) (passed : Passes path ms) where
    pub all_covered : turns path ≡ [] → Told (Ok tt)
    all_covered none =
        passed.told (Ok tt) (ap (λ ps. list_any test (regions_along atoms base ps passed.rest)) none)

    pub goes_over : (after : Constraints) → Turns base path true after → GoesOn after ms
    goes_over after turned = record {
      path = turned.0;
      trees = passed.rest;
      here = turned.2;
      made = passed.made;
      fit = subst (λ ps. AreFit (length atoms) base.room ps passed.rest) turned.1 passed.fit;
      rest = λ answer told. passed.told answer
          (subst (λ (ps : List (List Narrowing)). Answers test (leaves_met ms)
          (regions_along atoms base ps passed.rest) answer) (sym turned.1) told);
    }

  -- a split
  module _ (region : Constraints) (a : ℕ) (ms : List Met) (walk : GoesOn region (met.Split a ∷ ms)) where
    here : IsAtSplit atoms base region a (trees_met ms) walk.path walk.trees
    here = at_split atoms base region a (trees_met ms) walk.path walk.trees walk.made walk.here walk.fit

    pub split_atom : a < length atoms
    split_atom = here.atom

    pub split_room : 0 < region.room
    split_room = here.room

    pub goes_down : (after : Constraints) → after.dims ≡ region.dims
        → after.narrowings ≡ (answering atoms region a true).narrowings → after.room + 1 ≡ region.room → GoesOn after ms
    goes_down after dims narrowings room = on (here.down after dims narrowings room)
      where
        on : IsDown atoms base after walk.path walk.trees here.sides → GoesOn after ms
        on down = record {
          path = down.way;
          trees = here.sides;
          here = down.here;
          made = here.is;
          fit = down.fit;
          rest = λ answer told. walk.rest answer
              (subst (λ (rs : List Constraints). Answers test (leaves_met ms) rs answer) (sym down.regions) told);
        }

  -- a leaf
  module _ (region : Constraints) (place : NodePlace) (ms : List Met) (walk : GoesOn region (met.Leaf place ∷ ms)) where
    abbrev leaf : IsLeaf (trees_met ms) walk.trees
    leaf = leaf_there (trees_met ms) walk.trees walk.made

    tested : test region ≡ test (along base walk.path)
    tested =
        uncovered_alike atoms o region (along base walk.path)
        (walk.here.dims ∙ sym (along_dims base walk.path)) walk.here.narrowings

    abbrev left_regions : List Constraints
    left_regions = regions_along atoms base (turns walk.path) leaf.rest

    -- whatever answers for this leaf and the others answers for all
    all_told : (answer : Result (Unit {0}) WalkRefusal)
        → Answers test (place ∷ leaves_met ms) (along base walk.path ∷ left_regions) answer → Told answer
    all_told answer told =
        walk.rest answer (subst (λ (rs : List Constraints). Answers test (place ∷ leaves_met ms) rs answer)
        (sym (ap (regions_along atoms base (walk.path ∷ turns walk.path)) leaf.same)) told)

    pub not_covered : test region ≡ true → Told (Err (why.NotCovered place))
    not_covered is =
        all_told (Err (why.NotCovered place))
        (ap (λ b. if b then Some place else first_place test (leaves_met ms) left_regions) (sym tested ∙ is))

    -- a leaf that is covered changes no answer
    covered_told : test region ≡ false → (answer : Result (Unit {0}) WalkRefusal)
        → Answers test (leaves_met ms) left_regions answer → Told answer
    covered_told is answer told = all_told answer (by answer told)
      where
        by : (r : Result (Unit {0}) WalkRefusal) → Answers test (leaves_met ms) left_regions r
            → Answers test (place ∷ leaves_met ms) (along base walk.path ∷ left_regions) r
        by (Ok u) told = ap (λ b. b || list_any test left_regions) (sym tested ∙ is) ∙ told
        by (Err (why.NotCovered p)) told =
            ap (λ b. if b then Some place else first_place test (leaves_met ms) left_regions) (sym tested ∙ is) ∙ told
        by (Err why.Memory) told = tt

    pub leaf_passed : test region ≡ false → Passes walk.path ms
    leaf_passed is =
        let fits : AreFit (length atoms) base.room (walk.path ∷ turns walk.path) (tree.Leaf ∷ leaf.rest) =
        subst (AreFit (length atoms) base.room (walk.path ∷ turns walk.path)) leaf.same walk.fit in
        record { rest = leaf.rest; made = leaf.is; fit = fits.1; told = covered_told is }

-- ---- a walk through a tree with citations

-- what a walk through a tree is to tell of a target, where there is one
abbrev pub ToldOf : List Atom → Option TableTarget → Constraints → CitedTree → Result (Unit {0}) WalkRefusal → Type 0
ToldOf atoms o base c answer = AnswersOf (uncovered_at atoms o) atoms base (leaf_places c) (expanded c) answer

module _ (c : CitedTree) (count room : ℕ) where
  pub walkable_earlier : IsWalkable count room (expanded c) → are_earlier 0 (lists_of c) ≡ true
  walkable_earlier walkable = by (expanded c) refl walkable
    where
      by : (o : Option Tree) → expanded c ≡ o → IsWalkable count room o → are_earlier 0 (lists_of c) ≡ true
      by None at walkable = absurd (walkable)
      by (Some t) at walkable = (stands c t at).earlier

  -- what is met in a list of a tree that can be walked makes a tree
  pub walkable_makes : IsWalkable count room (expanded c) → (i : ℕ) → i < length (lists_of c)
      → MakesSome (met_in_list (lists_of c) i)
  walkable_makes walkable = by (expanded c) refl walkable
    where
      by : (o : Option Tree) → expanded c ≡ o → IsWalkable count room o → (i : ℕ) → i < length (lists_of c)
          → MakesSome (met_in_list (lists_of c) i)
      by None at walkable = absurd (walkable)
      by (Some t) at walkable = (stands c t at).each

pub tree_begins : (atoms : List Atom) (o : Option TableTarget) (base : Constraints) (c : CitedTree)
    → IsWalkable (length atoms) base.room (expanded c)
    → GoesOn atoms o base (ToldOf atoms o base c) base (to_come (lists_of c) (start_of c ∷ []))
tree_begins atoms o base c walkable = by (expanded c) refl walkable
  where
    by : (e : Option Tree) → expanded c ≡ e → IsWalkable (length atoms) base.room e
        → GoesOn atoms o base (ToldOf atoms o base c) base (to_come (lists_of c) (start_of c ∷ []))
    by None at walkable = absurd (walkable)
    by (Some t) at walkable =
        let all = stands c t at in
        begins atoms o base (ToldOf atoms o base c) t (to_come (lists_of c) (start_of c ∷ [])) walkable all.makes
        (λ answer told. subst (λ e. AnswersOf (uncovered_at atoms o) atoms base (leaf_places c) e answer) (sym at)
        (subst (λ ps. Answers (uncovered_at atoms o) ps (leaf_regions atoms base t) answer) all.leaves told))

-- a flag that tells of the target of that number whether it is uncovered
pub flag_is : (atoms : List Atom) (targets : List TableTarget) (target : ℕ) → target < length targets
    → (region : Constraints) (flag : Bool)
    → IfSome (slice_get targets target) (λ t. flag ≡ is_uncovered atoms t region)
    → flag ≡ uncovered_at atoms (slice_get targets target) region
flag_is atoms targets target within region flag is =
    let at = there targets target within in
    subst (λ o. flag ≡ uncovered_at atoms o region) (sym at.is)
    (subst (λ o. IfSome o (λ t. flag ≡ is_uncovered atoms t region)) at.is is)
