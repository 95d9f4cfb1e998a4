-- Trees are written by the classes of their subtrees.
use Rattle.std.proofs.Common.{◌≡◌, ◌≤◌, ◌<◌, ℕ, zero, suc, ◌+◌, ◌-◌, ◌*◌, ◌^◌, nat_le, true}
use Rattle.std.proofs.Common.{◌&&◌, List, [], ◌∷◌, ◌++◌, length, Option, Some, None, slice_get}
use Rattle.std.proofs.Common.{refl, sym, ap, ◌∙◌, subst, arith, append_assoc, append-nil, get_or, lit<}
use Rattle.std.proofs.lemmas.Bool.Decides.{nat_tests}
use Rattle.std.proofs.lemmas.Option.{slice_get-get_or}
use Rattle.std.proofs.Math.Nat.{pow-le-pow_right, pow-suc, one-le-pow}
use Rattle.cat_guard.specs.declared.tree.CitedNode.{CitedNode}
use Rattle.cat_guard.specs.declared.tree.CitedNode.TheVariants as cited
use Rattle.cat_guard.specs.Trees.{Tree}
use Rattle.cat_guard.specs.Trees as tree
use Rattle.cat_guard.proofs.Exported.{both_true}
use Rattle.cat_walk.specs.Sharing.{number_in, cited_or, written}
use Rattle.cat_walk.specs.inside.Classes.{Key, class_in, IsKey, AreKeys}
use Rattle.cat_walk.specs.inside.Writing.{are_low, CanWrite, HaveClasses, all_written, Knows, Writes}
use Rattle.cat_walk.specs.inside.Writing.{work_of}
use Rattle.cat_walk.proofs.ClassLemmas.{number_at, class_number, one_class}

-- trees of some classes were written, and trees of others are left over
abbrev pub IsWriting : List Key → List (Option ℕ) → List ℕ → List CitedNode → List ℕ → List CitedNode → Type 0
IsWriting keys numbers all before left_over nodes =
    (known names trees : List Tree) → Knows keys numbers known names → HaveClasses known all trees
    → (rest : List Tree) × (HaveClasses known left_over rest
    × (nodes ++ all_written names rest ≡ before ++ all_written names trees))

-- ---- keys are of lower classes

pub low_at : (n : ℕ) (keys : List Key) (i : ℕ) (k : Key) → are_low n keys ≡ true → slice_get keys i ≡ Some k
    → (k.1 ≤ n + i) × (k.2 ≤ n + i)
low_at n [] i k low is = absurd (cc)
low_at n (j ∷ ks) zero k low is =
    let two = both_true (nat_le j.1 n && nat_le j.2 n) (are_low (suc n) ks) low in
    let first = both_true (nat_le j.1 n) (nat_le j.2 n) two.0 in
    let same : j ≡ k = cc in
    let one : j.1 ≤ n = grind (arith, nat_tests, first.0) in
    let other : j.2 ≤ n = grind (arith, nat_tests, first.1) in
    let left : k.1 ≤ n = subst (λ (x : Key). x.1 ≤ n) same one in
    let right : k.2 ≤ n = subst (λ (x : Key). x.2 ≤ n) same other in
    (omega (arith, left), omega (arith, right))
low_at n (j ∷ ks) (suc i) k low is =
    let rest = low_at (suc n) ks i k
    (both_true (nat_le j.1 n && nat_le j.2 n) (are_low (suc n) ks) low).1 is in
    let left = rest.0 in
    let right = rest.1 in
    (omega (arith, left), omega (arith, right))

module _ (keys : List Key) (numbers : List (Option ℕ)) (c : ℕ) (cs : List ℕ)
    (can : CanWrite keys numbers (c ∷ cs)) where
  pub can_less : CanWrite keys numbers cs
  can_less = record { low = can.low; count = can.count; there = can.there.1 }

  module _ (some : ¬ (c ≡ 0)) where
    pub number_there : c - 1 < length numbers
    number_there =
        let most = can.there.0 in
        let count = can.count in
        omega (arith, most, count, some)

    module _ (k : Key) (at : slice_get keys (c - 1) ≡ Some k) where
      low : (k.1 ≤ 0 + (c - 1)) × (k.2 ≤ 0 + (c - 1))
      low = low_at 0 keys (c - 1) k can.low at

      pub can_more : CanWrite keys numbers (k.1 ∷ k.2 ∷ cs)
      can_more =
          let most = can.there.0 in
          let left = low.0 in
          let right = low.1 in
          record {
            low = can.low;
            count = can.count;
            there = (omega (arith, most, left), (omega (arith, most, right), can.there.1));
          }

      pub less_work : work_of (k.1 ∷ k.2 ∷ cs) < work_of (c ∷ cs)
      less_work =
          let left = low.0 in
          let right = low.1 in
          let one : 3 ^ k.1 ≤ 3 ^ (c - 1) = pow-le-pow_right (lit< tt) (omega (arith, left)) in
          let other : 3 ^ k.2 ≤ 3 ^ (c - 1) = pow-le-pow_right (lit< tt) (omega (arith, right)) in
          let next : c ≡ suc (c - 1) = omega (arith, some) in
          let more : 3 ^ c ≡ 3 ^ (c - 1) * 3 = ap (λ n. 3 ^ n) next ∙ pow-suc 3 (c - 1) in
          let least : 1 ≤ 3 ^ (c - 1) = one-le-pow (c - 1) 3 (lit< tt) in
          omega (arith, one, other, more, least)

-- less is left over behind one class
pub less_behind : (c : ℕ) (cs : List ℕ) → work_of cs < work_of (c ∷ cs)
less_behind c cs = let least : 1 ≤ 3 ^ c = one-le-pow c 3 (lit< tt) in omega (arith, least)

-- the key of a known tree
pub key_at : (known : List Tree) (ks : List Key) (ts : List Tree) → AreKeys known ks ts → (n : ℕ) (k : Key) (t : Tree)
    → slice_get ks n ≡ Some k → slice_get ts n ≡ Some t → IsKey known k t
key_at known [] [] keys n k t at is = absurd (cc)
key_at known [] (u ∷ ts) keys n k t at is = absurd (keys)
key_at known (j ∷ ks) [] keys n k t at is = absurd (keys)
key_at known (j ∷ ks) (u ∷ ts) keys zero k t at is =
    let key : j ≡ k = cc in
    let same : u ≡ t = cc in
    subst (λ x. IsKey known x t) key (subst (IsKey known j) same keys.0)
key_at known (j ∷ ks) (u ∷ ts) keys (suc n) k t at is = key_at known ks ts keys.1 n k t at is

-- ---- one tree is written, or its split

module _ (keys : List Key) (numbers : List (Option ℕ)) (all : List ℕ) (before : List CitedNode) (c : ℕ) (cs : List ℕ)
    (nodes : List CitedNode) (writing : IsWriting keys numbers all before (c ∷ cs) nodes) where
  -- the next tree stands in front of the others
  next_is : (known names : List Tree) (rest : List Tree) → HaveClasses known (c ∷ cs) rest
      → (t : Tree) × ((others : List Tree) × ((rest ≡ t ∷ others)
      × ((class_in known t ≡ Some c) × HaveClasses known cs others)))
  next_is known names [] have = absurd (have)
  next_is known names (t ∷ ts) have = (t, (ts, (refl, (have.0, have.1))))

  pub leaf_written : c ≡ 0 → IsWriting keys numbers all before cs (nodes ++ cited.Leaf ∷ [])
  leaf_written none known names trees knows have =
      let at = writing known names trees knows have in
      let next = next_is known names at.0 at.1.0 in
      let t = next.0 in
      let others = next.1.0 in
      let facts = next.1.1 in
      let leaf : t ≡ tree.Leaf =
      one_class known t tree.Leaf c facts.1.0 (ap Some (sym none)) in (
        others,
        (
          facts.1.1,
          append_assoc nodes (cited.Leaf ∷ []) (all_written names others)
              ∙ ap (λ u. nodes ++ (written names u ++ all_written names others)) (sym leaf)
              ∙ ap (λ ts. nodes ++ all_written names ts) (sym facts.0) ∙ at.1.1,
        ),
      )

  -- a class other than that of a leaf is that of a split with a number
  module _ (some : ¬ (c ≡ 0)) where
    split_is : (known : List Tree) (t : Tree) → class_in known t ≡ Some c
        → (a : ℕ) × ((l : Tree) × ((r : Tree) × ((t ≡ tree.Split a l r)
        × (number_in known (tree.Split a l r) ≡ Some (c - 1)))))
    split_is known tree.Leaf is = let none : 0 ≡ c = cc in absurd (some (sym none))
    split_is known tree.Rest is = absurd (cc)
    split_is known (tree.Split a l r) is =
        let at = class_number known a l r c is in
        let place : at.0 ≡ c - 1 = let one = at.1.1 in omega (arith, one) in
        (a, (l, (r, (refl, at.1.0 ∙ ap Some place))))

    pub cite_written : (name : ℕ) → slice_get numbers (c - 1) ≡ Some (Some name)
        → IsWriting keys numbers all before cs (nodes ++ cited.Cite name ∷ [])
    cite_written name named known names trees knows have =
        let at = writing known names trees knows have in
        let next = next_is known names at.0 at.1.0 in
        let t = next.0 in
        let others = next.1.0 in
        let facts = next.1.1 in
        let split = split_is known t facts.1.0 in
        let s = tree.Split split.0 split.1.0 split.1.1.0 in
        let number = split.1.1.1.1 in
        let told = knows.named (c - 1) s number in
        let same : number_in names s ≡ Some name = cc in
        let cites : written names t ≡ cited.Cite name ∷ [] =
        ap (written names) split.1.1.1.0
        ∙ ap (λ o. cited_or o (cited.Split split.0 ∷ written names split.1.0 ++ written names split.1.1.0)) same in (
          others,
          (
            facts.1.1,
            append_assoc nodes (cited.Cite name ∷ []) (all_written names others)
                ∙ ap (λ ns. nodes ++ (ns ++ all_written names others)) (sym cites)
                ∙ ap (λ ts. nodes ++ all_written names ts) (sym facts.0) ∙ at.1.1,
          ),
        )

    pub split_written : (k : Key) → slice_get numbers (c - 1) ≡ Some None → slice_get keys (c - 1) ≡ Some k
        → IsWriting keys numbers all before (k.1 ∷ k.2 ∷ cs) (nodes ++ cited.Split k.0 ∷ [])
    split_written k unnamed key known names trees knows have =
        let at = writing known names trees knows have in
        let next = next_is known names at.0 at.1.0 in
        let t = next.0 in
        let others = next.1.0 in
        let facts = next.1.1 in
        let split = split_is known t facts.1.0 in
        let a = split.0 in
        let l = split.1.0 in
        let r = split.1.1.0 in
        let s = tree.Split a l r in
        let number = split.1.1.1.1 in
        let told = knows.named (c - 1) s number in
        let none : number_in names s ≡ None = cc in
        let is_key = key_at known keys known knows.keys_are (c - 1) k s key (number_at known s (c - 1) number) in
        let nodes_are : written names t ≡ cited.Split k.0 ∷ written names l ++ written names r =
        ap (written names) split.1.1.1.0
        ∙ ap (λ o. cited_or o (cited.Split a ∷ written names l ++ written names r)) none
        ∙ ap (λ n. cited.Split n ∷ written names l ++ written names r) (sym is_key.0) in (
          l ∷ r ∷ others,
          (
            (is_key.1, (is_key.2, facts.1.1)),
            append_assoc nodes (cited.Split k.0 ∷ [])
                (written names l ++ (written names r ++ all_written names others))
                ∙ ap (λ ns. nodes ++ cited.Split k.0 ∷ ns)
                (sym (append_assoc (written names l) (written names r) (all_written names others)))
                ∙ ap (λ ns. nodes ++ (ns ++ all_written names others)) (sym nodes_are)
                ∙ ap (λ ts. nodes ++ all_written names ts) (sym facts.0) ∙ at.1.1,
          ),
        )

pub all_are_written : (keys : List Key) (numbers : List (Option ℕ)) (all : List ℕ) (before nodes : List CitedNode)
    → IsWriting keys numbers all before [] nodes → Writes keys numbers all before nodes
all_are_written keys numbers all before nodes writing known names trees knows have =
    let at = writing known names trees knows have in
    let none : at.0 ≡ [] = by at.0 at.1.0 in
    sym (append-nil nodes) ∙ ap (λ ts. nodes ++ all_written names ts) (sym none) ∙ at.1.1
  where
    by : (ts : List Tree) → HaveClasses known [] ts → ts ≡ []
    by [] have = refl
    by (t ∷ ts) have = absurd (have)

pub read_at : {A : Type 0} (xs : List A) (i : ℕ) (d x : A) → i < length xs → get_or xs i d ≡ x
    → slice_get xs i ≡ Some x
read_at xs i d x within is = slice_get-get_or xs i d within ∙ ap Some is
