-- Trees have numbers, classes and keys, and one of each kind tells the others.
use Rattle.std.proofs.Common.{◌≡◌, ℕ, suc, ◌+◌, Bool, true, false, not, ◌||◌, cond}
use Rattle.std.proofs.Common.{if◌then◌else◌, List, [], ◌∷◌, ◌++◌, length, Option, Some, None, slice_get}
use Rattle.std.proofs.Common.{option_map}
use Rattle.std.proofs.Common.{refl, sym, ap, ◌∙◌, subst, arith, true≢false}
use Rattle.std.proofs.lemmas.Bool.{or_parts}
use Rattle.std.specs.List.{list_any, position_or_len}
use Rattle.cat_guard.specs.Trees.{Tree}
use Rattle.cat_guard.specs.Trees as tree
use Rattle.cat_walk.specs.Sharing.{same_tree, is_among, number_in}
use Rattle.cat_walk.specs.inside.Classes.{Key, class_in, IsKey, AreKeys}
use Rattle.cat_walk.proofs.SharedLaws.{same_is, same_self}

same_bool : (x y : Bool) → (x ≡ true → y ≡ true) → (y ≡ true → x ≡ true) → x ≡ y
same_bool true y to from = sym (to refl)
same_bool false true to from = absurd (true≢false (sym (from refl)))
same_bool false false to from = refl

-- ---- numbers of trees

pub number_at : (known : List Tree) (t : Tree) (n : ℕ) → number_in known t ≡ Some n → slice_get known n ≡ Some t
number_at [] t n is = absurd (cc)
number_at (u ∷ us) t n is = by (same_tree t u) refl (number_in us t) (number_at us t) is
  where
    by : (b : Bool) → same_tree t u ≡ b → (o : Option ℕ) → ((m : ℕ) → o ≡ Some m → slice_get us m ≡ Some t)
        → (if b then Some 0 else option_map suc o) ≡ Some n → slice_get (u ∷ us) n ≡ Some t
    by true same o rest is =
        let first : 0 ≡ n = cc in
        rw (← first) (ap Some (sym (same_is t u same)))
    by false same None rest is = absurd (cc)
    by false same (Some m) rest is =
        let next : suc m ≡ n = cc in
        rw (← next) (rest m refl)

pub number_more : (known us : List Tree) (t : Tree) (n : ℕ) → number_in known t ≡ Some n
    → number_in (known ++ us) t ≡ Some n
number_more [] us t n is = absurd (cc)
number_more (u ∷ known) us t n is = by (same_tree t u) (number_in known t) (number_more known us t) is
  where
    by : (b : Bool) (o : Option ℕ) → ((m : ℕ) → o ≡ Some m → number_in (known ++ us) t ≡ Some m)
        → (if b then Some 0 else option_map suc o) ≡ Some n
        → (if b then Some 0 else option_map suc (number_in (known ++ us) t)) ≡ Some n
    by true o rest is = is
    by false None rest is = absurd (cc)
    by false (Some m) rest is = rw (rest m refl) is

pub number_last : (known : List Tree) (t : Tree) → is_among known t ≡ false
    → number_in (known ++ t ∷ []) t ≡ Some (length known)
number_last [] t new = rw (same_self t) refl
number_last (u ∷ known) t new =
    let parts = or_parts (same_tree t u) (is_among known t) new in
    rw (parts.0, number_last known t parts.1) refl

-- a tree among some has a number, and one with a number is among them
pub numbered_or_new : (known : List Tree) (t : Tree) (n : ℕ) → number_in known t ≡ Some n → is_among known t ≡ true
numbered_or_new [] t n is = absurd (cc)
numbered_or_new (u ∷ known) t n is = by (same_tree t u) (number_in known t) (numbered_or_new known t) is
  where
    by : (b : Bool) (o : Option ℕ) → ((m : ℕ) → o ≡ Some m → is_among known t ≡ true)
        → (if b then Some 0 else option_map suc o) ≡ Some n → (b || is_among known t) ≡ true
    by true o rest is = refl
    by false None rest is = absurd (cc)
    by false (Some m) rest is = rest m refl

pub number_there : (known : List Tree) (t : Tree) → is_among known t ≡ true → (n : ℕ) × (number_in known t ≡ Some n)
number_there [] t h = absurd (true≢false (sym h))
number_there (u ∷ known) t h = by (same_tree t u) (number_there known t) h
  where
    by : (b : Bool) → (is_among known t ≡ true → (n : ℕ) × (number_in known t ≡ Some n))
        → (b || is_among known t) ≡ true
        → (n : ℕ) × ((if b then Some 0 else option_map suc (number_in known t)) ≡ Some n)
    by true rest h = (0, refl)
    by false rest h = let at = rest h in (suc at.0, ap (option_map suc) at.1)

-- ---- classes

pub class_more : (known us : List Tree) (t : Tree) (c : ℕ) → class_in known t ≡ Some c
    → class_in (known ++ us) t ≡ Some c
class_more known us tree.Leaf c is = is
class_more known us tree.Rest c is = absurd (cc)
class_more known us (tree.Split a l r) c is =
    by (number_in known (tree.Split a l r)) (number_more known us (tree.Split a l r)) is
  where
    by : (o : Option ℕ) → ((n : ℕ) → o ≡ Some n → number_in (known ++ us) (tree.Split a l r) ≡ Some n)
        → option_map suc o ≡ Some c → option_map suc (number_in (known ++ us) (tree.Split a l r)) ≡ Some c
    by None more is = absurd (cc)
    by (Some n) more is = rw (more n refl) is

-- the number of a class other than that of a leaf
pub class_number : (known : List Tree) (a : ℕ) (l r : Tree) (c : ℕ) → class_in known (tree.Split a l r) ≡ Some c
    → (n : ℕ) × ((number_in known (tree.Split a l r) ≡ Some n) × (c ≡ suc n))
class_number known a l r c is = by (number_in known (tree.Split a l r)) refl is
  where
    by : (o : Option ℕ) → number_in known (tree.Split a l r) ≡ o → option_map suc o ≡ Some c
        → (n : ℕ) × ((number_in known (tree.Split a l r) ≡ Some n) × (c ≡ suc n))
    by None at is = absurd (cc)
    by (Some n) at is = (n, (at, cc))

-- a class is that of one tree
pub one_class : (known : List Tree) (t u : Tree) (c : ℕ) → class_in known t ≡ Some c → class_in known u ≡ Some c → t ≡ u
one_class known tree.Leaf tree.Leaf c one other = refl
one_class known tree.Leaf tree.Rest c one other = absurd (cc)
one_class known tree.Leaf (tree.Split b m s) c one other =
    let at = class_number known b m s c other in
    let none : 0 ≡ c = cc in
    absurd (omega (arith, none, at.1.1))
one_class known tree.Rest u c one other = absurd (cc)
one_class known (tree.Split a l r) tree.Leaf c one other =
    let at = class_number known a l r c one in
    let none : 0 ≡ c = cc in
    absurd (omega (arith, none, at.1.1))
one_class known (tree.Split a l r) tree.Rest c one other = absurd (cc)
one_class known (tree.Split a l r) (tree.Split b m s) c one other =
    let at = class_number known a l r c one in
    let there = class_number known b m s c other in
    let same : at.0 ≡ there.0 = omega (arith, at.1.1, there.1.1) in
    let left = number_at known (tree.Split a l r) at.0 at.1.0 in
    let right = number_at known (tree.Split b m s) there.0 there.1.0 in
    let moved : slice_get known there.0 ≡ Some (tree.Split a l r) =
    subst (λ n. slice_get known n ≡ Some (tree.Split a l r)) same left in
    cc

-- the parts of a split
abbrev pub atom_of : Tree → ℕ
atom_of (tree.Split a l r) = a
atom_of t = 0

abbrev pub left_of : Tree → Tree
left_of (tree.Split a l r) = l
left_of t = t

abbrev pub right_of : Tree → Tree
right_of (tree.Split a l r) = r
right_of t = t

-- ---- keys

-- a test that tells equal keys
pub record IsKeyTest (eq : Key → Key → Bool) : Type 0 where
  pub yes : (k j : Key) → eq k j ≡ true → (k.0 ≡ j.0) × ((k.1 ≡ j.1) × (k.2 ≡ j.2))
  pub self : (k j : Key) → k.0 ≡ j.0 → k.1 ≡ j.1 → k.2 ≡ j.2 → eq k j ≡ true

module _ (eq : Key → Key → Bool) (test : IsKeyTest eq) where
  -- keys are equal where their trees are
  key_test : (known : List Tree) (k j : Key) (t u : Tree) → IsKey known k t → IsKey known j u
      → eq k j ≡ same_tree t u
  key_test known k j tree.Leaf u one other = absurd (one)
  key_test known k j tree.Rest u one other = absurd (one)
  key_test known k j (tree.Split a l r) tree.Leaf one other = absurd (other)
  key_test known k j (tree.Split a l r) tree.Rest one other = absurd (other)
  key_test known k j (tree.Split a l r) (tree.Split b m s) one other =
      same_bool (eq k j) (same_tree (tree.Split a l r) (tree.Split b m s))
      (λ h.
      let same = test.yes k j h in
      let atom : a ≡ b = sym one.0 ∙ same.0 ∙ other.0 in
      let left = one_class known l m k.1 one.1 (other.1 ∙ ap Some (sym same.1.0)) in
      let right = one_class known r s k.2 one.2 (other.2 ∙ ap Some (sym same.1.1)) in
      let all : tree.Split a l r ≡ tree.Split b m s =
      ap (λ n. tree.Split n l r) atom ∙ ap (λ x. tree.Split b x r) left ∙ ap (tree.Split b m) right in
      subst (λ x. same_tree (tree.Split a l r) x ≡ true) all (same_self (tree.Split a l r)))
      (λ h.
      let all = same_is (tree.Split a l r) (tree.Split b m s) h in
      let left : l ≡ m = ap left_of all in
      let right : r ≡ s = ap right_of all in
      let one_left : Some k.1 ≡ Some j.1 = sym one.1 ∙ ap (class_in known) left ∙ other.1 in
      let one_right : Some k.2 ≡ Some j.2 = sym one.2 ∙ ap (class_in known) right ∙ other.2 in
      test.self k j (one.0 ∙ ap atom_of all ∙ sym other.0) (cc) (cc))

  pub keys_any : (known : List Tree) (k : Key) (t : Tree) → IsKey known k t → (ks : List Key) (ts : List Tree)
      → AreKeys known ks ts → list_any (eq k) ks ≡ is_among ts t
  keys_any known k t is [] [] keys = refl
  keys_any known k t is [] (u ∷ ts) keys = absurd (keys)
  keys_any known k t is (j ∷ ks) [] keys = absurd (keys)
  keys_any known k t is (j ∷ ks) (u ∷ ts) keys =
      ap (λ b. b || list_any (eq k) ks) (key_test known k j t u is keys.0)
      ∙ ap (λ b. same_tree t u || b) (keys_any known k t is ks ts keys.1)

  -- a key stands where its tree does
  pub keys_position : (known : List Tree) (k : Key) (t : Tree) → IsKey known k t → (ks : List Key) (ts : List Tree)
      → AreKeys known ks ts → (n : ℕ) → number_in ts t ≡ Some n → position_or_len (eq k) ks ≡ n
  keys_position known k t is [] [] keys n at = absurd (cc)
  keys_position known k t is [] (u ∷ ts) keys n at = absurd (keys)
  keys_position known k t is (j ∷ ks) [] keys n at = absurd (keys)
  keys_position known k t is (j ∷ ks) (u ∷ ts) keys n at =
      by (eq k j) (same_tree t u) (key_test known k j t u is keys.0) (number_in ts t)
      (keys_position known k t is ks ts keys.1) at
    where
      by : (b d : Bool) → b ≡ d → (o : Option ℕ)
          → ((m : ℕ) → o ≡ Some m → position_or_len (eq k) ks ≡ m)
          → (if d then Some 0 else option_map suc o) ≡ Some n
          → cond (not b) (1 + position_or_len (eq k) ks) 0 ≡ n
      by true true same o rest at = cc
      by true false same o rest at = absurd (true≢false same)
      by false true same o rest at = absurd (true≢false (sym same))
      by false false same None rest at = absurd (cc)
      by false false same (Some m) rest at =
          let next : suc m ≡ n = cc in
          ap (λ x. 1 + x) (rest m refl) ∙ omega (arith, next)

pub key_more : (known us : List Tree) (k : Key) (t : Tree) → IsKey known k t → IsKey (known ++ us) k t
key_more known us k tree.Leaf is = absurd (is)
key_more known us k tree.Rest is = absurd (is)
key_more known us k (tree.Split a l r) is =
    (is.0, class_more known us l k.1 is.1, class_more known us r k.2 is.2)

pub keys_more : (known us : List Tree) (ks : List Key) (ts : List Tree) → AreKeys known ks ts
    → AreKeys (known ++ us) ks ts
keys_more known us [] [] keys = tt
keys_more known us [] (t ∷ ts) keys = absurd (keys)
keys_more known us (k ∷ ks) [] keys = absurd (keys)
keys_more known us (k ∷ ks) (t ∷ ts) keys = (key_more known us k t keys.0, keys_more known us ks ts keys.1)

pub keys_last : (known : List Tree) (k : Key) (t : Tree) → IsKey known k t → (ks : List Key) (ts : List Tree)
    → AreKeys known ks ts → AreKeys known (ks ++ k ∷ []) (ts ++ t ∷ [])
keys_last known k t is [] [] keys = (is, tt)
keys_last known k t is [] (u ∷ ts) keys = absurd (keys)
keys_last known k t is (j ∷ ks) [] keys = absurd (keys)
keys_last known k t is (j ∷ ks) (u ∷ ts) keys = (keys.0, keys_last known k t is ks ts keys.1)

pub keys_count : (known : List Tree) (ks : List Key) (ts : List Tree) → AreKeys known ks ts → length ks ≡ length ts
keys_count known [] [] keys = refl
keys_count known [] (t ∷ ts) keys = absurd (keys)
keys_count known (k ∷ ks) [] keys = absurd (keys)
keys_count known (k ∷ ks) (t ∷ ts) keys = ap suc (keys_count known ks ts keys.1)
