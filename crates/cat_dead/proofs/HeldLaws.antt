-- What wins in no leaf of a whole tree without open leaves holds at no valuation.
use Rattle.std.proofs.Common.{◌≡◌, nat_eq, Bool, true, false, not, ◌&&◌, ◌||◌, if◌then◌else◌, IsTrue, List, [], ◌∷◌}
use Rattle.std.proofs.Common.{◌++◌}
use Rattle.std.proofs.Common.{Option, Some, None, Result, Ok, Err, slice_get, refl, sym, ap, ◌∙◌, subst, true≢false}
use Rattle.std.proofs.Common.{append_assoc}
use Rattle.std.specs.List.{list_any}
use Rattle.std.proofs.lemmas.List.Folds.{list_any-append}
use Rattle.std.proofs.lemmas.Bool.{or_parts}
use Rattle.cat_pos.specs.declared.pos.Pos.{Pos}
use Rattle.cat_region.specs.Regions.{Constraints, Valuation, Admits, IsRegion}
use Rattle.cat_region.specs.Decided.{admits_none}
use Rattle.cat_region.proofs.Exported.{IsEmpty-of_admits_none, and-both}
use Rattle.cat_scope.specs.declared.stop.Stop.{Stop}
use Rattle.cat_scope.specs.Judging.{Held}
use Rattle.cat_scope.specs.Names.{AllHave}
use Rattle.cat_guard.specs.declared.guard.GuardDef.{GuardDef}
use Rattle.cat_guard.specs.declared.table.Atom.{Atom}
use Rattle.cat_guard.specs.declared.table.TableTarget.{TableTarget}
use Rattle.cat_guard.specs.declared.table.Term.{Term}
use Rattle.cat_guard.specs.Judged.{judged_in}
use Rattle.cat_guard.specs.Soundness.{is_sound, atom_is_sound}
use Rattle.cat_guard.specs.TableJudging.{decided}
use Rattle.cat_guard.specs.Trees.{Tree, is_whole, with_answer, answering}
use Rattle.cat_guard.specs.Trees as tree
use Rattle.cat_guard.specs.Valuations.{dims_of, holds_at}
use Rattle.cat_guard.specs.Verdicts.{Verdict, Holds, Empty, Conflict, Open, Stands}
use Rattle.cat_guard.proofs.Exported.{all_more, both_true, nat_self, on_side, side, sound_atoms}
use Rattle.cat_walk.specs.Coverage.{leaf_regions}
use Rattle.cat_walk.proofs.ClosedLaws.{answered, answered_dims}
use Rattle.std.specs.List.{list_all}
use Rattle.cat_dead.specs.NeverDecides.{IsHeldElsewhere}
use Rattle.cat_dead.specs.Winners.{is_open, is_open_in, is_same, place_of, holder_of, winner_in, winners_in}

pub same_self : (p : Pos) → is_same p p ≡ true
same_self p = and-both (nat_eq p.line p.line) (nat_eq p.place p.place) (nat_self p.line) (nat_self p.place)

abbrev or_same : {A : Type 0} → A → Option A → A
or_same a None = a
or_same a (Some b) = b

-- the two are one where both are there
pub some_same : {A : Type 0} (a b : A) → Some a ≡ Some b → a ≡ b
some_same a b e = ap (or_same a) e

-- a flag that is false where another one is
second_false : (a b : Bool) → a ≡ false → (not a && b) ≡ false → b ≡ false
second_false true b none h = absurd (true≢false none)
second_false false b none h = h

-- ---- one region

module _ (t : TableTarget) (p : Pos) where
  elsewhere : (j : Verdict) (r : Result (Option (Held (Unit {0}))) Stop) → Stands t.target t.defs j r
      → is_open j ≡ false → list_any (is_same p) (holder_of t j) ≡ false → IsHeldElsewhere p r
  elsewhere (Holds d) (Ok (Some h)) stands known lost =
      let def = stands.0 in
      let here : (is_same p def.pos || false) ≡ false =
      subst (λ (o : Option GuardDef). list_any (is_same p) (place_of o) ≡ false) stands.1 lost in
      λ same.
      let pos_is : def.pos ≡ p = sym (ap (λ (x : Held (Unit {0})). x.pos) stands.2) ∙ some_same h.pos p same in
      true≢false (sym (ap (λ b. b || false) (same_self p))
      ∙ subst (λ (q : Pos). (is_same p q || false) ≡ false) pos_is here)
  elsewhere (Holds d) (Ok None) stands known lost = absurd (stands)
  elsewhere (Holds d) (Err s) stands known lost = tt
  elsewhere Empty (Ok None) stands known lost = λ same. absurd (cc)
  elsewhere Empty (Ok (Some h)) stands known lost = absurd (stands)
  elsewhere Empty (Err s) stands known lost = tt
  elsewhere Conflict (Ok found) stands known lost = absurd (stands)
  elsewhere Conflict (Err s) stands known lost = tt
  elsewhere Open r stands known lost = absurd (true≢false known)

-- ---- trees

module _ (terms : List Term) (atoms : List Atom) where
  -- what is judged in a region is so at each valuation that it admits
  abbrev pub JudgedSo : TableTarget → Type 0
  JudgedSo t = (region : Constraints) (v : Valuation) → IsRegion region → region.dims ≡ dims_of terms
      → Admits region v → Stands t.target t.defs (judged_in atoms region t) (decided t (holds_at atoms v)).end

  abbrev pub NeverHeldIn : TableTarget → Type 0
  NeverHeldIn t = (region : Constraints) (w : Tree) (p : Pos) (v : Valuation) → IsRegion region
      → region.dims ≡ dims_of terms → IsTrue (is_whole w)
      → list_any (is_open_in atoms t) (leaf_regions atoms region w) ≡ false
      → list_any (is_same p) (winners_in atoms t (leaf_regions atoms region w)) ≡ false
      → Admits region v → IsHeldElsewhere p (decided t (holds_at atoms v)).end

  module _ (sound : IsTrue (list_all (atom_is_sound terms) atoms)) (t : TableTarget) (so : JudgedSo t) (p : Pos)
      (v : Valuation) where
    -- a region that admits the valuation admits something
    some_admitted : (region : Constraints) → IsRegion region → Admits region v → admits_none region ≡ false
    some_admitted region is admits = by (admits_none region) refl
      where
        by : (b : Bool) → admits_none region ≡ b → b ≡ false
        by true none = absurd (IsEmpty-of_admits_none region is none v admits)
        by false none = refl

    leaf_elsewhere : (region : Constraints) → IsRegion region → region.dims ≡ dims_of terms
        → is_open_in atoms t region ≡ false → list_any (is_same p) (winner_in atoms t region) ≡ false
        → Admits region v → IsHeldElsewhere p (decided t (holds_at atoms v)).end
    leaf_elsewhere region is dims known lost admits =
        let some = some_admitted region is admits in
        elsewhere t p (judged_in atoms region t) (decided t (holds_at atoms v)).end (so region v is dims admits)
        (second_false (admits_none region) (is_open (judged_in atoms region t)) some known)
        (subst (λ (b : Bool). list_any (is_same p) (if b then [] else holder_of t (judged_in atoms region t)) ≡ false)
        some lost)

    winners_front : (xs ys : List Constraints)
        → winners_in atoms t (xs ++ ys) ≡ winners_in atoms t xs ++ winners_in atoms t ys
    winners_front [] ys = refl
    winners_front (x ∷ xs) ys =
        ap (λ ps. winner_in atoms t x ++ ps) (winners_front xs ys)
        ∙ sym (append_assoc (winner_in atoms t x) (winners_in atoms t xs) (winners_in atoms t ys))

    tree_elsewhere : (region : Constraints) (w : Tree) → IsRegion region → region.dims ≡ dims_of terms
        → IsTrue (is_whole w) → list_any (is_open_in atoms t) (leaf_regions atoms region w) ≡ false
        → list_any (is_same p) (winners_in atoms t (leaf_regions atoms region w)) ≡ false
        → Admits region v → IsHeldElsewhere p (decided t (holds_at atoms v)).end
    tree_elsewhere region tree.Leaf is dims whole known lost admits =
        leaf_elsewhere region is dims (or_parts (is_open_in atoms t region) false known).0
        (or_parts (list_any (is_same p) (winner_in atoms t region)) false
        (sym (list_any-append (is_same p) (winner_in atoms t region) []) ∙ lost)).0 admits
    tree_elsewhere region tree.Rest is dims whole known lost admits = absurd (true≢false (sym whole))
    tree_elsewhere region (tree.Split a left right) is dims whole known lost admits =
        by (side region v (slice_get atoms a)) (on_side region v (slice_get atoms a) admits)
        (tree_elsewhere (answering atoms region a true) left (next true) (dims_same true) both.0 opens.0 wins.0)
        (tree_elsewhere (answering atoms region a false) right (next false) (dims_same false) both.1 opens.1 wins.1)
      where
        one : List Constraints
        one = leaf_regions atoms (answering atoms region a true) left

        other : List Constraints
        other = leaf_regions atoms (answering atoms region a false) right

        both : IsTrue (is_whole left) × IsTrue (is_whole right)
        both = both_true (is_whole left) (is_whole right) whole

        opens : (list_any (is_open_in atoms t) one ≡ false) × (list_any (is_open_in atoms t) other ≡ false)
        opens = or_parts (list_any (is_open_in atoms t) one) (list_any (is_open_in atoms t) other)
            (sym (list_any-append (is_open_in atoms t) one other) ∙ known)

        wins : (list_any (is_same p) (winners_in atoms t one) ≡ false)
            × (list_any (is_same p) (winners_in atoms t other) ≡ false)
        wins = or_parts (list_any (is_same p) (winners_in atoms t one))
            (list_any (is_same p) (winners_in atoms t other))
            (sym (list_any-append (is_same p) (winners_in atoms t one) (winners_in atoms t other))
            ∙ sym (ap (list_any (is_same p)) (winners_front one other)) ∙ lost)

        next : (b : Bool) → IsRegion (answering atoms region a b)
        next b = answered terms atoms sound region a b (slice_get atoms a) refl is dims

        dims_same : (b : Bool) → (answering atoms region a b).dims ≡ dims_of terms
        dims_same b = answered_dims terms atoms sound region (slice_get atoms a) b ∙ dims

        by : (b : Bool) → Admits (with_answer region (slice_get atoms a) b) v
            → (Admits (answering atoms region a true) v → IsHeldElsewhere p (decided t (holds_at atoms v)).end)
            → (Admits (answering atoms region a false) v → IsHeldElsewhere p (decided t (holds_at atoms v)).end)
            → IsHeldElsewhere p (decided t (holds_at atoms v)).end
        by true on one_side other_side = one_side on
        by false on one_side other_side = other_side on

pub never_held : (terms : List Term) (atoms : List Atom) (targets : List TableTarget)
    → IsTrue (is_sound terms atoms targets) → AllHave (JudgedSo terms atoms) targets
    → AllHave (NeverHeldIn terms atoms) targets
never_held terms atoms targets sound all =
    all_more (JudgedSo terms atoms) (NeverHeldIn terms atoms) targets all
    (λ t so region w p v. tree_elsewhere terms atoms (sound_atoms terms atoms targets sound) t so p v region w)
