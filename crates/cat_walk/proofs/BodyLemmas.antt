-- Named trees and the whole are written.
use Rattle.std.proofs.Common.{◌≡◌, ◌≤◌, ◌<◌, ℕ, zero, suc, ◌+◌, true, false, is_some, List, [], ◌∷◌, ◌++◌, length}
use Rattle.std.proofs.Common.{map, drop, Option, Some, None, slice_get, refl, sym, ap, ◌∙◌, subst, arith, append_assoc}
use Rattle.std.proofs.Common.{append-nil, true≢false, get_or, add-one}
use Rattle.std.proofs.lemmas.Option.{slice_get-get_or, slice_get_past}
use Rattle.cat_guard.specs.declared.tree.CitedNode.{CitedNode}
use Rattle.cat_guard.specs.declared.tree.CitedNode.TheVariants as cited
use Rattle.cat_guard.specs.Trees.{Tree}
use Rattle.cat_guard.specs.Trees as tree
use Rattle.cat_walk.specs.Sharing.{written, body}
use Rattle.cat_walk.specs.inside.Classes.{Key, class_in, IsKey}
use Rattle.cat_walk.specs.inside.Writing.{CanWrite, Knows, Writes, picked}
use Rattle.cat_walk.proofs.ClassLemmas.{keys_count}
use Rattle.cat_walk.proofs.WritingLemmas.{low_at, key_at}

drop-at : {A : Type 0} (xs : List A) (k : ℕ) (x : A) → slice_get xs k ≡ Some x → drop k xs ≡ x ∷ drop (suc k) xs
drop-at [] k x h = absurd (cc)
drop-at (y ∷ ys) zero x h = cc
drop-at (y ∷ ys) (suc k) x h = drop-at ys k x h

drop-past : {A : Type 0} (xs : List A) (k : ℕ) → slice_get xs k ≡ None → drop k xs ≡ []
drop-past [] zero h = refl
drop-past [] (suc k) h = refl
drop-past (y ∷ ys) zero h = absurd (cc)
drop-past (y ∷ ys) (suc k) h = drop-past ys k h

there : {A : Type 0} (xs : List A) (k : ℕ) → k < length xs → (x : A) × (slice_get xs k ≡ Some x)
there [] k h = absurd (omega arith)
there (x ∷ xs) zero h = (x, refl)
there (x ∷ xs) (suc k) h = there xs k (omega arith)

module _ (keys : List Key) (numbers : List (Option ℕ)) (can : CanWrite keys numbers []) (index : ℕ)
    (within : index < length numbers) (k : Key) (at : slice_get keys index ≡ Some k) where
  pub can_body : CanWrite keys numbers (k.1 ∷ k.2 ∷ [])
  can_body =
      let low = low_at 0 keys index k can.low at in
      let left = low.0 in
      let right = low.1 in
      let count = can.count in
      record {
        low = can.low;
        count = can.count;
        there = (omega (arith, left, count, within), (omega (arith, right, count, within), tt));
      }

  pub body_is : (known names : List Tree) (t : Tree) → Knows keys numbers known names → slice_get known index ≡ Some t
      → (nodes : List CitedNode) → Writes keys numbers (k.1 ∷ k.2 ∷ []) (cited.Split k.0 ∷ []) nodes
      → nodes ≡ body names t
  body_is known names t knows is nodes writes =
      by t (key_at known keys known knows.keys_are index k t at is)
    where
      by : (u : Tree) → IsKey known k u → nodes ≡ body names u
      by tree.Leaf key = absurd (key)
      by tree.Rest key = absurd (key)
      by (tree.Split a l r) key =
          writes known names (l ∷ r ∷ []) knows (key.1, (key.2, tt))
          ∙ ap (λ ns. cited.Split k.0 ∷ (written names l ++ ns)) (append-nil (written names r))
          ∙ ap (λ n. cited.Split n ∷ written names l ++ written names r) key.0

pub in_place_is : (keys : List Key) (numbers : List (Option ℕ)) (class : ℕ) (known names : List Tree) (t : Tree)
    → Knows keys numbers known names → class_in known t ≡ Some class → (nodes : List CitedNode)
    → Writes keys numbers (class ∷ []) [] nodes → nodes ≡ written names t
in_place_is keys numbers class known names t knows is nodes writes =
    writes known names (t ∷ []) knows (is, tt) ∙ append-nil (written names t)

-- ---- one class after the other

module _ (keys : List Key) (numbers : List (Option ℕ)) (can : CanWrite keys numbers []) (known names : List Tree)
    (knows : Knows keys numbers known names) (index : ℕ) (within : index < length numbers) where
  known_there : (t : Tree) × (slice_get known index ≡ Some t)
  known_there =
      let count = can.count in
      let same = keys_count known keys known knows.keys_are in
      there known index (omega (arith, count, same, within))

  pub passed_over : slice_get numbers index ≡ Some None
      → picked (drop index known) (drop index numbers) ≡ picked (drop (suc index) known) (drop (suc index) numbers)
  passed_over at =
      ap (λ ts. picked ts (drop index numbers)) (drop-at known index known_there.0 known_there.1)
      ∙ ap (λ ns. picked (known_there.0 ∷ drop (suc index) known) ns) (drop-at numbers index None at)

  pub picked_up : (name : ℕ) → slice_get numbers index ≡ Some (Some name) → (lists : List (List CitedNode))
      → (list : List CitedNode) → ((t : Tree) → slice_get known index ≡ Some t → list ≡ body names t)
      → lists ++ map (body names) (picked (drop index known) (drop index numbers))
      ≡ (lists ++ list ∷ []) ++ map (body names) (picked (drop (suc index) known) (drop (suc index) numbers))
  picked_up name at lists list is =
      let t = known_there.0 in
      let rest = map (body names) (picked (drop (suc index) known) (drop (suc index) numbers)) in
      ap (λ ts. lists ++ map (body names) (picked ts (drop index numbers))) (drop-at known index t known_there.1)
      ∙ ap (λ ns. lists ++ map (body names) (picked (t ∷ drop (suc index) known) ns))
      (drop-at numbers index (Some name) at)
      ∙ ap (λ l. lists ++ (l ∷ rest)) (sym (is t known_there.1))
      ∙ sym (append_assoc lists (list ∷ []) rest)

-- what a look into the numbers tells
none_at : (numbers : List (Option ℕ)) (index : ℕ) → index < length numbers
    → is_some (get_or numbers index None) ≡ false → slice_get numbers index ≡ Some None
none_at numbers index within is =
    slice_get-get_or numbers index None within ∙ by (get_or numbers index None) is
  where
    by : (o : Option ℕ) → is_some o ≡ false → Some o ≡ Some None
    by None h = refl
    by (Some n) h = absurd (true≢false h)

some_at : (numbers : List (Option ℕ)) (index : ℕ) → index < length numbers
    → is_some (get_or numbers index None) ≡ true → (n : ℕ) × (slice_get numbers index ≡ Some (Some n))
some_at numbers index within is =
    by (get_or numbers index None) refl is
  where
    by : (o : Option ℕ) → get_or numbers index None ≡ o → is_some o ≡ true
        → (n : ℕ) × (slice_get numbers index ≡ Some (Some n))
    by None at h = absurd (true≢false (sym h))
    by (Some n) at h = (n, slice_get-get_or numbers index None within ∙ ap Some at)

module _ (keys : List Key) (numbers : List (Option ℕ)) (can : CanWrite keys numbers []) (index : ℕ)
    (within : index < length numbers) (lists : List (List CitedNode))
    (made : (known names : List Tree) → Knows keys numbers known names
    → lists ++ map (body names) (picked (drop index known) (drop index numbers))
    ≡ map (body names) (picked known numbers))
  where
    pub none_made : is_some (get_or numbers index None) ≡ false → (known names : List Tree)
        → Knows keys numbers known names
        → lists ++ map (body names) (picked (drop (index + 1) known) (drop (index + 1) numbers))
        ≡ map (body names) (picked known numbers)
    none_made is known names knows =
        subst (λ n. lists ++ map (body names) (picked (drop n known) (drop n numbers))
        ≡ map (body names) (picked known numbers)) (sym (add-one index))
        (ap (λ ts. lists ++ map (body names) ts)
        (sym (passed_over keys numbers can known names knows index within (none_at numbers index within is)))
        ∙ made known names knows)

    pub one_made : is_some (get_or numbers index None) ≡ true → (list : List CitedNode)
        → ((known names : List Tree) (t : Tree) → Knows keys numbers known names → slice_get known index ≡ Some t
        → list ≡ body names t) → (known names : List Tree) → Knows keys numbers known names
        → (lists ++ list ∷ []) ++ map (body names) (picked (drop (index + 1) known) (drop (index + 1) numbers))
        ≡ map (body names) (picked known numbers)
    one_made is list list_is known names knows =
        let at = some_at numbers index within is in
        subst (λ n. (lists ++ list ∷ []) ++ map (body names) (picked (drop n known) (drop n numbers))
        ≡ map (body names) (picked known numbers)) (sym (add-one index))
        (sym (picked_up keys numbers can known names knows index within at.0 at.1 lists list
        (λ t known_is. list_is known names t knows known_is))
        ∙ made known names knows)

picked_none : (known : List Tree) → picked known [] ≡ []
picked_none [] = refl
picked_none (t ∷ ts) = refl

pub all_made : (numbers : List (Option ℕ)) (index : ℕ) → length numbers ≤ index → (lists : List (List CitedNode))
    → (known names : List Tree)
    → lists ++ map (body names) (picked (drop index known) (drop index numbers))
    ≡ map (body names) (picked known numbers)
    → lists ≡ map (body names) (picked known numbers)
all_made numbers index past lists known names made =
    let none : drop index numbers ≡ [] = drop-past numbers index (slice_get_past numbers index past) in
    sym (append-nil lists)
    ∙ ap (λ ts. lists ++ map (body names) ts)
    (sym (ap (picked (drop index known)) none ∙ picked_none (drop index known))) ∙ made
