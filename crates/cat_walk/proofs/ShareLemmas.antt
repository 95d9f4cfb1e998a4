-- What was numbered is written as the tree is shared.
use Rattle.std.proofs.Common.{◌≡◌, ◌≤◌, ℕ, zero, suc, ◌+◌, nat_le, Bool, true, false, ◌||◌, cond}
use Rattle.std.proofs.Common.{if◌then◌else◌, List, [], ◌∷◌, ◌++◌, length, map, filter, Option, Some, None, slice_get}
use Rattle.std.proofs.Common.{option_map, refl, sym, ap, ◌∙◌, subst, arith, append_assoc, true≢false}
use Rattle.std.proofs.Common.{length-append}
use Rattle.std.proofs.lemmas.Bool.Decides.{nat_tests}
use Rattle.std.proofs.lemmas.Bool.{or_parts}
use Rattle.std.proofs.lemmas.Option.{slice_get_within, slice_get_past, slice_get-map}
use Rattle.cat_guard.specs.declared.tree.CitedNode.{CitedNode}
use Rattle.cat_guard.specs.Trees.{Tree, is_whole}
use Rattle.cat_guard.specs.Trees as tree
use Rattle.cat_walk.specs.Sharing.{same_tree, is_among, number_in, with_all, subtrees, recurs_in, named_in}
use Rattle.cat_walk.specs.Sharing.{written, body, shared, is_whole_tree}
use Rattle.cat_walk.specs.inside.Classes.{Key, class_in, AreKeys}
use Rattle.cat_walk.specs.inside.Numbering.{IsDone}
use Rattle.cat_walk.specs.inside.Writing.{numbers_from, are_low, CanWrite, Knows, picked}
use Rattle.cat_walk.proofs.SharedLaws.{same_is, same_self, AllIn, AreOrdered, grown, distinct}
use Rattle.cat_walk.proofs.SharedLaws.{filter_none}
use Rattle.cat_walk.proofs.ClassLemmas.{number_at, number_there, number_more, class_number, keys_count}

-- ---- keys are of lower classes

side_low : (known us : List Tree) (s : Tree) → AllIn known s → (c : ℕ) → class_in (known ++ us) s ≡ Some c
    → c ≤ length known
side_low known us tree.Leaf all c is = let none : 0 ≡ c = cc in omega (arith, none)
side_low known us tree.Rest all c is = absurd (all)
side_low known us (tree.Split a l r) all c is =
    let at = number_there known (tree.Split a l r) all.0 in
    let more = number_more known us (tree.Split a l r) at.0 at.1 in
    let here = class_number (known ++ us) a l r c is in
    let same : here.0 ≡ at.0 = let one = here.1.0 in cc in
    let within = slice_get_within known at.0 (tree.Split a l r) (number_at known (tree.Split a l r) at.0 at.1) in
    let next = here.1.1 in
    omega (arith, same, within, next)

low_keys : (whole known us : List Tree) (ks : List Key) → AreOrdered known us → whole ≡ known ++ us
    → AreKeys whole ks us → are_low (length known) ks ≡ true
low_keys whole known [] [] ordered same keys = refl
low_keys whole known [] (k ∷ ks) ordered same keys = absurd (keys)
low_keys whole known (u ∷ us) [] ordered same keys = absurd (keys)
low_keys whole known (tree.Leaf ∷ us) (k ∷ ks) ordered same keys = absurd (keys.0)
low_keys whole known (tree.Rest ∷ us) (k ∷ ks) ordered same keys = absurd (keys.0)
low_keys whole known (tree.Split a l r ∷ us) (k ∷ ks) ordered same keys =
    let u = tree.Split a l r in
    let one = side_low known (u ∷ us) l ordered.0.0.0 k.1 (subst (λ ts. class_in ts l ≡ Some k.1) same keys.0.1) in
    let other = side_low known (u ∷ us) r ordered.0.0.1 k.2 (subst (λ ts. class_in ts r ≡ Some k.2) same keys.0.2) in
    let first : nat_le k.1 (length known) ≡ true = grind (arith, nat_tests, one) in
    let second : nat_le k.2 (length known) ≡ true = grind (arith, nat_tests, other) in
    let count : length (known ++ u ∷ []) ≡ suc (length known) = omega (arith, length-append known (u ∷ [])) in
    rw (first, second)
    (subst (λ n. are_low n ks ≡ true) count
    (low_keys whole (known ++ u ∷ []) us ks ordered.1 (same ∙ sym (append_assoc known (u ∷ []) us)) keys.1))

-- ---- flags

last_among : (known : List Tree) (u : Tree) → is_among (known ++ u ∷ []) u ≡ true
last_among [] u = ap (λ b. b || false) (same_self u)
last_among (w ∷ known) u = by (same_tree u w) (last_among known u)
  where
    by : (b : Bool) → is_among (known ++ u ∷ []) u ≡ true → (b || is_among (known ++ u ∷ []) u) ≡ true
    by true h = refl
    by false h = h

found_among : (us : List Tree) (i : ℕ) (s : Tree) → slice_get us i ≡ Some s → is_among us s ≡ true
found_among [] i s is = absurd (cc)
found_among (u ∷ us) zero s is =
    let same : s ≡ u = cc in
    ap (λ b. b || is_among us s) (ap (same_tree s) (sym same) ∙ same_self s)
found_among (u ∷ us) (suc i) s is = by (same_tree s u) (found_among us i s is)
  where
    by : (b : Bool) → is_among us s ≡ true → (b || is_among us s) ≡ true
    by true h = refl
    by false h = h

-- in order, each tree has its own number
own_number : (known us : List Tree) → AreOrdered known us → (i : ℕ) (s : Tree) → slice_get us i ≡ Some s
    → number_in us s ≡ Some i
own_number known [] ordered i s is = absurd (cc)
own_number known (u ∷ us) ordered zero s is =
    let same : u ≡ s = cc in
    subst (λ x. (if same_tree s x then Some 0 else option_map suc (number_in us s)) ≡ Some 0) (sym same)
    (ap (λ b. if b then Some 0 else option_map suc (number_in us s)) (same_self s))
own_number known (u ∷ us) ordered (suc i) s is =
    let rest = own_number (known ++ u ∷ []) us ordered.1 i s is in
    ap (λ b. if b then Some 0 else option_map suc (number_in us s)) (apart (same_tree s u) refl)
    ∙ ap (option_map suc) rest
  where
    here : is_among (known ++ u ∷ []) u ≡ true
    here = last_among known u

    apart : (b : Bool) → same_tree s u ≡ b → b ≡ false
    apart false same = refl
    apart true same =
        let gone = distinct u (known ++ u ∷ []) us ordered.1 here in
        let among = found_among us i s is in
        absurd (true≢false (sym among ∙ ap (is_among us) (same_is s u same) ∙ gone))

not_within : {A : Type 0} (xs : List A) (i : ℕ) → slice_get xs i ≡ None → length xs ≤ i
not_within [] i h = omega arith
not_within (x ∷ xs) zero h = absurd (cc)
not_within (x ∷ xs) (suc i) h = let rest = not_within xs i h in omega (arith, rest)

-- two lists with the same elements at each number are equal
same_lists : {A : Type 0} (xs ys : List A) → ((i : ℕ) → slice_get xs i ≡ slice_get ys i) → xs ≡ ys
same_lists [] [] h = refl
same_lists [] (y ∷ ys) h = let first = h 0 in absurd (cc)
same_lists (x ∷ xs) [] h = let first = h 0 in absurd (cc)
same_lists (x ∷ xs) (y ∷ ys) h =
    let first : x ≡ y = let one = h 0 in cc in
    ap (λ z. z ∷ xs) first ∙ ap (λ zs. y ∷ zs) (same_lists xs ys (λ i. h (suc i)))

-- ---- numbers of names

-- one more number in front
plus_one : (k : ℕ) (o : Option ℕ) → option_map (λ n. k + n) (option_map suc o) ≡ option_map (λ n. (k + 1) + n) o
plus_one k None = refl
plus_one k (Some n) = let same : k + suc n ≡ (k + 1) + n = omega arith in ap Some same

plus_none : (k : ℕ) (o : Option ℕ) → option_map (λ n. k + n) o ≡ option_map (λ n. (k + 0) + n) o
plus_none k None = refl
plus_none k (Some n) = let same : k + n ≡ (k + 0) + n = omega arith in ap Some same

not_numbered : (t : Tree) (us : List Tree) → is_among us t ≡ false → number_in us t ≡ None
not_numbered t [] h = refl
not_numbered t (u ∷ us) h =
    let parts = or_parts (same_tree t u) (is_among us t) h in
    rw (parts.0, not_numbered t us parts.1) refl

-- a flag more
module _ (pass : Tree → Bool) (t u : Tree) (us : List Tree) (k : ℕ) where
  -- what is to be shown of the first tree and those behind it
  abbrev Named : Bool → Bool → ℕ → Type 0
  Named b same n =
      slice_get ((if b then Some k else None) ∷ numbers_from (k + (if b then 1 else 0)) (map pass us)) n
      ≡ Some (option_map (λ m. k + m) (number_in (cond b (u ∷ filter pass us) (filter pass us)) t))

  first_named : (b : Bool) → same_tree t u ≡ true → is_among us u ≡ false → Named b true 0
  first_named true same gone =
      let zero_is : k ≡ k + 0 = omega arith in
      ap (λ n. Some (Some n)) zero_is
      ∙ ap (λ b. Some (option_map (λ m. k + m) (if b then Some 0 else option_map suc (number_in (filter pass us) t))))
      (sym same)
  first_named false same gone =
      let is = same_is t u same in
      let none = not_numbered t (filter pass us) (filter_none pass t us (ap (is_among us) is ∙ gone)) in
      ap (λ o. Some (option_map (λ m. k + m) o)) (sym none)

  later_named : (b : Bool) → same_tree t u ≡ false → (n : ℕ)
      → slice_get (numbers_from (k + (if b then 1 else 0)) (map pass us)) n
      ≡ Some (option_map (λ m. (k + (if b then 1 else 0)) + m) (number_in (filter pass us) t)) → Named b false (suc n)
  later_named true other n rest =
      rest ∙ ap Some (sym (plus_one k (number_in (filter pass us) t)))
      ∙ ap (λ b. Some (option_map (λ m. k + m) (if b then Some 0 else option_map suc (number_in (filter pass us) t))))
      (sym other)
  later_named false other n rest = rest ∙ ap Some (sym (plus_none k (number_in (filter pass us) t)))

numbers_are : (pass : Tree → Bool) (known us : List Tree) → AreOrdered known us → (k : ℕ) (t : Tree) (n : ℕ)
    → number_in us t ≡ Some n
    → slice_get (numbers_from k (map pass us)) n ≡ Some (option_map (λ m. k + m) (number_in (filter pass us) t))
numbers_are pass known [] ordered k t n is = absurd (cc)
numbers_are pass known (u ∷ us) ordered k t n is =
    by (same_tree t u) refl (number_in us t)
    (numbers_are pass (known ++ u ∷ []) us ordered.1 (k + (if pass u then 1 else 0)) t) is
  where
    by : (b : Bool) → same_tree t u ≡ b → (o : Option ℕ)
        → ((m : ℕ) → o ≡ Some m
        → slice_get (numbers_from (k + (if pass u then 1 else 0)) (map pass us)) m
        ≡ Some (option_map (λ j. (k + (if pass u then 1 else 0)) + j) (number_in (filter pass us) t)))
        → (if b then Some 0 else option_map suc o) ≡ Some n
        → slice_get (numbers_from k (map pass (u ∷ us))) n
        ≡ Some (option_map (λ m. k + m) (number_in (filter pass (u ∷ us)) t))
    by true same o rest is =
        let first : 0 ≡ n = cc in
        rw (← first)
        (first_named pass t u us k (pass u) same
        (distinct u (known ++ u ∷ []) us ordered.1 (last_among known u)))
    by false same None rest is = absurd (cc)
    by false same (Some m) rest is =
        let next : suc m ≡ n = cc in
        rw (← next) (later_named pass t u us k (pass u) same m (rest m refl))

picked_are : (pass : Tree → Bool) (us : List Tree) (k : ℕ) → picked us (numbers_from k (map pass us)) ≡ filter pass us
picked_are pass [] k = refl
picked_are pass (u ∷ us) k = by (pass u) (picked_are pass us)
  where
    by : (b : Bool) → ((j : ℕ) → picked us (numbers_from j (map pass us)) ≡ filter pass us)
        → picked (u ∷ us) ((if b then Some k else None) ∷ numbers_from (k + (if b then 1 else 0)) (map pass us))
        ≡ cond b (u ∷ filter pass us) (filter pass us)
    by true rest = ap (λ ts. u ∷ ts) (rest (k + 1))
    by false rest = rest (k + 0)

length-numbers_from : (k : ℕ) (fs : List Bool) → length (numbers_from k fs) ≡ length fs
length-numbers_from k [] = refl
length-numbers_from k (f ∷ fs) = ap suc (length-numbers_from (k + (if f then 1 else 0)) fs)

-- ---- the whole

module _ (t : Tree) (whole : is_whole t ≡ true) (keys : List Key) (recurs : List Bool) (root : ℕ)
    (numbered : IsDone keys recurs [] root t) where
  abbrev known : List Tree
  known = with_all [] (subtrees t)

  ordered : AreOrdered [] known
  ordered = (grown t whole [] tt).ordered

  flags_are : recurs ≡ map (recurs_in t) known
  flags_are = same_lists recurs (map (recurs_in t) known) (λ i. by i (slice_get known i) refl)
    where
      by : (i : ℕ) (o : Option Tree) → slice_get known i ≡ o
          → slice_get recurs i ≡ slice_get (map (recurs_in t) known) i
      by i (Some s) at =
          numbered.classes.recurs_are i s (own_number [] known ordered i s at)
          ∙ sym (slice_get-map (recurs_in t) known i ∙ ap (option_map (recurs_in t)) at)
      by i None at =
          let count = numbered.classes.count in
          let past = not_within known i at in
          slice_get_past recurs i (omega (arith, count, past))
          ∙ sym (slice_get-map (recurs_in t) known i ∙ ap (option_map (recurs_in t)) at)

  numbers_known : numbers_from 0 recurs ≡ numbers_from 0 (map (recurs_in t) known)
  numbers_known = ap (numbers_from 0) flags_are

  pub can_write : CanWrite keys (numbers_from 0 recurs) (root ∷ [])
  can_write =
      let same = keys_count known keys known numbered.classes.keys_are in
      let flags = numbered.classes.count in
      let numbers = length-numbers_from 0 recurs in
      record {
        low = low_keys known [] known keys ordered refl numbered.classes.keys_are;
        count = omega (arith, same, flags, numbers);
        there = (root_low t root numbered.class_is same, tt);
      }
    where
      root_low : (s : Tree) (c : ℕ) → class_in known s ≡ Some c → length keys ≡ length known → c ≤ length keys
      root_low tree.Leaf c is same = let none : 0 ≡ c = cc in omega (arith, none)
      root_low tree.Rest c is same = absurd (cc)
      root_low (tree.Split a l r) c is same =
          let at = class_number known a l r c is in
          let within = slice_get_within known at.0 (tree.Split a l r)
          (number_at known (tree.Split a l r) at.0 at.1.0) in
          let next = at.1.1 in
          omega (arith, within, next, same)

  pub knows : Knows keys (numbers_from 0 recurs) known (named_in t)
  knows = record {
    keys_are = numbered.classes.keys_are;
    named = λ n s is.
        ap (λ ns. slice_get ns n) numbers_known
        ∙ numbers_are (recurs_in t) [] known ordered 0 s n is
        ∙ ap Some (from_zero (number_in (named_in t) s));
  }
    where
      from_zero : (o : Option ℕ) → option_map (λ m. 0 + m) o ≡ o
      from_zero None = refl
      from_zero (Some n) = let same : 0 + n ≡ n = omega arith in ap Some same

  pub names_are : picked known (numbers_from 0 recurs) ≡ named_in t
  names_are = ap (picked known) numbers_known ∙ picked_are (recurs_in t) known 0

  pub shared_is : (names : List (List CitedNode)) (main : List CitedNode)
      → names ≡ map (body (named_in t)) (picked known (numbers_from 0 recurs)) → main ≡ written (named_in t) t
      → record { names = names; main = main } ≡ shared t
  shared_is names main names_is main_is =
      ap (λ ns. record { names = ns; main = main }) (names_is ∙ ap (map (body (named_in t))) names_are)
      ∙ ap (λ ns. record { names = map (body (named_in t)) (named_in t); main = ns }) main_is

-- a whole tree is there
pub whole_there : (o : Option Tree) → is_whole_tree o ≡ true → (t : Tree) × ((o ≡ Some t) × (is_whole t ≡ true))
whole_there None h = absurd (true≢false (sym h))
whole_there (Some t) h = (t, (refl, h))

pub can_less_root : (keys : List Key) (numbers : List (Option ℕ)) (root : ℕ) → CanWrite keys numbers (root ∷ [])
    → CanWrite keys numbers []
can_less_root keys numbers root can = record { low = can.low; count = can.count; there = tt }
