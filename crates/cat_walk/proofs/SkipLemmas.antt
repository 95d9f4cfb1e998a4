-- A named tree in a region that admits nothing.
use Rattle.std.proofs.Common.{◌≡◌, ℕ, suc, ◌+◌, Bool, true, false, not, ◌||◌, if◌then◌else◌, IsTrue, List, [], ◌∷◌}
use Rattle.std.proofs.Common.{◌++◌, length, Option, Some, None, Result, Ok, Err, slice_get, refl, sym, ap, ◌∙◌, subst}
use Rattle.std.proofs.Common.{arith, length-append, append-nil, true≢false}
use Rattle.std.proofs.lemmas.Bool.{or_parts}
use Rattle.std.proofs.lemmas.List.Folds.{list_any-append}
use Rattle.std.specs.List.{list_any, list_all}
use Rattle.cat_region.specs.declared.narrowing.Narrowing.{Narrowing}
use Rattle.cat_region.specs.Regions.{Constraints, IsRegion, with_narrowing}
use Rattle.cat_region.specs.Decided.{admits_none}
use Rattle.cat_region.proofs.Exported.{IsInhabited-of_admits, admits-of_IsInhabited, along_dims, none_alike}
use Rattle.cat_region.proofs.Exported.{region_alike, region_before, some_before}
use Rattle.cat_guard.specs.declared.table.Term.{Term}
use Rattle.cat_guard.specs.declared.table.Atom.{Atom}
use Rattle.cat_guard.specs.declared.table.TableTarget.{TableTarget}
use Rattle.cat_guard.specs.Judged.{judged_in, covers}
use Rattle.cat_guard.specs.Soundness.{atom_is_sound}
use Rattle.cat_guard.specs.Trees.{Tree, leaves, answering, with_answer}
use Rattle.cat_guard.specs.Trees as tree
use Rattle.cat_guard.specs.Valuations.{dims_of}
use Rattle.cat_walk.specs.declared.place.NodePlace.{NodePlace}
use Rattle.cat_walk.specs.declared.refusal.WalkRefusal.{WalkRefusal}
use Rattle.cat_walk.specs.declared.refusal.WalkRefusal.TheVariants as why
use Rattle.cat_walk.specs.declared.meeting.Met.{Met}
use Rattle.cat_walk.specs.declared.meeting.Met.TheVariants as met
use Rattle.cat_walk.specs.Coverage.{leaf_regions, first_place, Answers}
use Rattle.cat_region.specs.Sides.{along, turns}
use Rattle.cat_walk.specs.inside.Walking.{uncovered_at, trees_met, leaves_met, regions_along, AreFit}
use Rattle.cat_walk.proofs.ClosedLaws.{answered, answered_dims}
use Rattle.cat_walk.proofs.StandLemmas.{Makes, leaves_met-append}
use Rattle.cat_walk.proofs.WalkLemmas.{leaf_there, GoesOn, Passes}
use Rattle.cat_walk.proofs.SplitLemmas.{split_there}

-- ---- as many leaves as regions

leaf_count : (atoms : List Atom) (region : Constraints) (t : Tree) → length (leaf_regions atoms region t) ≡ leaves t
leaf_count atoms region tree.Leaf = refl
leaf_count atoms region tree.Rest = refl
leaf_count atoms region (tree.Split a left right) =
    let one = leaf_regions atoms (answering atoms region a true) left in
    let other = leaf_regions atoms (answering atoms region a false) right in
    length-append one other
    ∙ ap (λ k. k + length other) (leaf_count atoms (answering atoms region a true) left)
    ∙ ap (λ k. leaves left + k) (leaf_count atoms (answering atoms region a false) right)

abbrev total : List Tree → ℕ
total [] = 0
total (t ∷ ts) = leaves t + total ts

met_count : (ms : List Met) (ts : List Tree) → trees_met ms ≡ Some ts → length (leaves_met ms) ≡ total ts
met_count [] ts is = let same : [] ≡ ts = cc in ap total same
met_count (met.Split a ∷ ms) ts is =
    let split = split_there a (trees_met ms) ts is in
    let more : length (leaves_met ms) ≡ leaves split.left + (leaves split.right + total split.rest) =
    met_count ms (split.left ∷ split.right ∷ split.rest) split.is in
    let joined : leaves split.left + (leaves split.right + total split.rest)
    ≡ (leaves split.left + leaves split.right) + total split.rest = omega arith in
    more ∙ joined ∙ sym (ap total split.same)
met_count (met.Leaf place ∷ ms) ts is =
    let leaf = leaf_there (trees_met ms) ts is in
    let more : length (leaves_met ms) ≡ total leaf.rest = met_count ms leaf.rest leaf.is in
    let one : suc (total leaf.rest) ≡ 1 + total leaf.rest = omega arith in
    ap suc more ∙ one ∙ sym (ap total leaf.same)
met_count (met.Cite i ∷ ms) ts is = met_count ms ts is
met_count (met.End ∷ ms) ts is = met_count ms ts is

makes_count : (ms : List Met) (t : Tree) → Makes ms t → length (leaves_met ms) ≡ leaves t
makes_count ms t makes =
    let all : length (leaves_met (ms ++ [])) ≡ leaves t + 0 =
    met_count (ms ++ []) (t ∷ []) (makes.before [] [] refl) in
    let same = ap (λ xs. length (leaves_met xs)) (append-nil ms) in
    omega (arith, all, same)

-- ---- what follows a tree

behind : (ms more : List Met) (trees : List Tree) → trees_met (ms ++ more) ≡ Some trees
    → (ts : List Tree) × (trees_met more ≡ Some ts)
behind [] more trees is = (trees, is)
behind (met.Split a ∷ ms) more trees is =
    let split = split_there a (trees_met (ms ++ more)) trees is in
    behind ms more (split.left ∷ split.right ∷ split.rest) split.is
behind (met.Leaf place ∷ ms) more trees is =
    let leaf = leaf_there (trees_met (ms ++ more)) trees is in
    behind ms more leaf.rest leaf.is
behind (met.Cite i ∷ ms) more trees is = behind ms more trees is
behind (met.End ∷ ms) more trees is = behind ms more trees is

made_behind : (ms more : List Met) (trees : List Tree) (t : Tree) → Makes ms t → trees_met (ms ++ more) ≡ Some trees
    → (ts : List Tree) × (trees_met more ≡ Some ts) × (trees ≡ t ∷ ts)
made_behind ms more trees t makes is =
    let rest = behind ms more trees is in
    let all = makes.before more rest.0 rest.1 in
    let same : trees ≡ t ∷ rest.0 = cc in
    (rest.0, rest.1, same)

-- ---- regions that pass no test

module _ (test : Constraints → Bool) (qs : List NodePlace) (ss : List Constraints) where
  first_behind : (ps : List NodePlace) (rs : List Constraints) → length ps ≡ length rs → list_any test rs ≡ false
      → first_place test (ps ++ qs) (rs ++ ss) ≡ first_place test qs ss
  first_behind [] [] long none = refl
  first_behind [] (r ∷ rs) long none = absurd (omega (arith, long))
  first_behind (p ∷ ps) [] long none = absurd (omega (arith, long))
  first_behind (p ∷ ps) (r ∷ rs) long none =
      let two = or_parts (test r) (list_any test rs) none in
      let short : suc (length ps) ≡ suc (length rs) = long in
      ap (λ b. if b then Some p else first_place test (ps ++ qs) (rs ++ ss)) two.0
      ∙ first_behind ps rs (omega (arith, short)) two.1

  answers_behind : (ps : List NodePlace) (rs : List Constraints) → length ps ≡ length rs → list_any test rs ≡ false
      → (answer : Result (Unit {0}) WalkRefusal) → Answers test qs ss answer → Answers test (ps ++ qs) (rs ++ ss) answer
  answers_behind ps rs long none (Ok u) told =
      list_any-append test rs ss ∙ ap (λ b. b || list_any test ss) none ∙ told
  answers_behind ps rs long none (Err (why.NotCovered place)) told = first_behind ps rs long none ∙ told
  answers_behind ps rs long none (Err why.Memory) told = tt

-- ---- below a region that admits nothing

none_after : (region : Constraints) (n : Narrowing) → IsRegion (with_narrowing region n) → admits_none region ≡ true
    → admits_none (with_narrowing region n) ≡ true
none_after region n is none = by (admits_none (with_narrowing region n)) refl
  where
    by : (b : Bool) → admits_none (with_narrowing region n) ≡ b → admits_none (with_narrowing region n) ≡ true
    by true e = e
    by false e =
        let some = some_before region n (IsInhabited-of_admits (with_narrowing region n) is e) in
        absurd (true≢false (sym none ∙ admits-of_IsInhabited region (region_before region n is).0 some))

module _ (terms : List Term) (atoms : List Atom) (sound : IsTrue (list_all (atom_is_sound terms) atoms))
    (o : Option TableTarget) where
  covered : (region : Constraints) → admits_none region ≡ true → uncovered_at atoms o region ≡ false
  covered region none = by o
    where
      by : (p : Option TableTarget) → uncovered_at atoms p region ≡ false
      by None = refl
      by (Some t) = ap (λ b. not (b || covers t.may_be_empty (judged_in atoms region t))) none

  none_answered : (region : Constraints) (a : ℕ) (b : Bool) (x : Option Atom) → slice_get atoms a ≡ x
      → IsRegion region → region.dims ≡ dims_of terms → admits_none region ≡ true
      → admits_none (with_answer region x b) ≡ true
  none_answered region a b None at is dims none = none
  none_answered region a b (Some atom) at is dims none =
      none_after region (record { dim = atom.term; cut = atom.cut; yes = b })
      (answered terms atoms sound region a b (Some atom) at is dims) none

  all_covered_below : (region : Constraints) (t : Tree) → IsRegion region → region.dims ≡ dims_of terms
      → admits_none region ≡ true → list_any (uncovered_at atoms o) (leaf_regions atoms region t) ≡ false
  all_covered_below region tree.Leaf is dims none = ap (λ b. b || false) (covered region none)
  all_covered_below region tree.Rest is dims none = refl
  all_covered_below region (tree.Split a left right) is dims none =
      let test = uncovered_at atoms o in
      let side = λ (b : Bool). answering atoms region a b in
      let next = λ (b : Bool). answered terms atoms sound region a b (slice_get atoms a) refl is dims in
      let same = λ (b : Bool). answered_dims terms atoms sound region (slice_get atoms a) b ∙ dims in
      let still = λ (b : Bool). none_answered region a b (slice_get atoms a) refl is dims none in
      list_any-append test (leaf_regions atoms (side true) left) (leaf_regions atoms (side false) right)
      ∙ ap (λ b. b || list_any test (leaf_regions atoms (side false) right))
      (all_covered_below (side true) left (next true) (same true) (still true))
      ∙ all_covered_below (side false) right (next false) (same false) (still false)

  -- a named tree is passed in a region that admits nothing
  pub named_passed : (base : Constraints) (Told : Result (Unit {0}) WalkRefusal → Type 0) (region : Constraints) (i : ℕ)
      (named ms : List Met) (t : Tree) → Makes named t
      → (walk : GoesOn atoms o base Told region (met.Cite i ∷ named ++ ms)) → IsRegion region
      → region.dims ≡ dims_of terms → admits_none region ≡ true → Passes atoms o base Told walk.path ms
  named_passed base Told region i named ms t makes walk is dims none =
      let test = uncovered_at atoms o in
      let end = along base walk.path in
      let made = made_behind named ms walk.trees t makes walk.made in
      let same : region.dims ≡ end.dims = walk.here.dims ∙ sym (along_dims base walk.path) in
      let fits : AreFit (length atoms) base.room (walk.path ∷ turns walk.path) (t ∷ made.0) =
      subst (AreFit (length atoms) base.room (walk.path ∷ turns walk.path)) made.2 walk.fit in
      let regions = ap (regions_along atoms base (walk.path ∷ turns walk.path)) made.2 in
      let covers_all = all_covered_below end t (region_alike region end same walk.here.narrowings is) (sym same ∙ dims)
      (sym (none_alike region end same walk.here.narrowings) ∙ none) in
      let long = makes_count named t makes ∙ sym (leaf_count atoms end t) in
      record {
        rest = made.0;
        made = made.1;
        fit = fits.1;
        told = λ answer told. walk.rest answer
            (subst (λ (rs : List Constraints). Answers test (leaves_met (named ++ ms)) rs answer) (sym regions)
            (subst (λ (ps : List NodePlace). Answers test ps
            (leaf_regions atoms end t ++ regions_along atoms base (turns walk.path) made.0) answer)
            (sym (leaves_met-append named ms))
            (answers_behind test (leaves_met ms) (regions_along atoms base (turns walk.path) made.0) (leaves_met named)
            (leaf_regions atoms end t) long covers_all answer told)));
      }
