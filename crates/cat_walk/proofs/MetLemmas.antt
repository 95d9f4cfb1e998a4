-- One subtree more is met.
use Rattle.std.proofs.Common.{◌≡◌, ◌<◌, ℕ, zero, suc, ◌+◌, nat_eq, nat_lt, Bool, true, false, not, ◌&&◌, ◌||◌}
use Rattle.std.proofs.Common.{if◌then◌else◌, List, [], ◌∷◌, ◌++◌, length, Option, Some, None, slice_get, slice_set}
use Rattle.std.proofs.Common.{option_map}
use Rattle.std.proofs.Common.{◌⊎◌, inl, inr, refl, sym, ap, ◌∙◌, subst, arith, true≢false, length-append}
use Rattle.std.proofs.Common.{add-one}
use Rattle.std.proofs.lemmas.Bool.Decides.{nat_tests}
use Rattle.std.proofs.lemmas.Bool.{or_parts}
use Rattle.std.proofs.Math.Bool.{or-false, or_assoc}
use Rattle.std.proofs.lemmas.List.Folds.{list_any-append}
use Rattle.std.proofs.lemmas.Option.{slice_get_within}
use Rattle.std.specs.List.{list_any, position_or_len}
use Rattle.cat_guard.specs.Trees.{Tree}
use Rattle.cat_guard.specs.Trees as tree
use Rattle.cat_guard.proofs.Exported.{both_true}
use Rattle.cat_walk.specs.Sharing.{same_tree, is_among, number_in, with_tree, with_all, times_in}
use Rattle.cat_walk.specs.inside.Classes.{Key, class_in, IsKey, AreKeys, AreClasses, Meets}
use Rattle.cat_walk.proofs.SharedLaws.{same_is, same_self, with_all-append}
use Rattle.cat_walk.proofs.ClassLemmas.{IsKeyTest, key_more, keys_any, keys_last, keys_more, keys_position, number_at}
use Rattle.cat_walk.proofs.ClassLemmas.{number_last, number_there, numbered_or_new}

-- ---- how often

times_last : (ts : List Tree) (t s : Tree)
    → times_in (ts ++ t ∷ []) s ≡ times_in ts s + (if same_tree s t then 1 else 0)
times_last [] t s = omega arith
times_last (u ∷ ts) t s =
    let rest = times_last ts t s in
    omega (arith, rest)

times_none : (ts : List Tree) (s : Tree) → is_among ts s ≡ false → times_in ts s ≡ 0
times_none [] s h = refl
times_none (u ∷ ts) s h =
    let parts = or_parts (same_tree s u) (is_among ts s) h in
    let rest = times_none ts s parts.1 in
    rw parts.0 (omega (arith, rest))

times_some : (ts : List Tree) (s : Tree) → is_among ts s ≡ true → 0 < times_in ts s
times_some [] s h = absurd (true≢false (sym h))
times_some (u ∷ ts) s h = by (same_tree s u) (times_some ts s) h
  where
    by : (b : Bool) → (is_among ts s ≡ true → 0 < times_in ts s) → (b || is_among ts s) ≡ true
        → 0 < (if b then 1 else 0) + times_in ts s
    by true rest h = omega arith
    by false rest h = let more = rest h in omega (arith, more)

-- ---- what is met is known

among-append : (x : Tree) (ts us : List Tree) → is_among (ts ++ us) x ≡ (is_among ts x || is_among us x)
among-append x ts us = list_any-append (same_tree x) ts us

among-with_tree : (x t : Tree) (known : List Tree)
    → is_among (with_tree known t) x ≡ (is_among known x || same_tree x t)
among-with_tree x t known = by (is_among known t) refl
  where
    old : (b d : Bool) → is_among known x ≡ b → same_tree x t ≡ d → is_among known t ≡ true → b ≡ (b || d)
    old true d here same h = refl
    old false false here same h = refl
    old false true here same h =
        let is = same_is x t same in
        absurd (true≢false (sym h ∙ ap (is_among known) (sym is) ∙ here))

    by : (b : Bool) → is_among known t ≡ b
        → is_among (if b then known else known ++ t ∷ []) x ≡ (is_among known x || same_tree x t)
    by true h = old (is_among known x) (same_tree x t) refl refl h
    by false h = among-append x known (t ∷ []) ∙ ap (λ b. is_among known x || b) (or-false (same_tree x t))

among-with_all : (x : Tree) (known ts : List Tree)
    → is_among (with_all known ts) x ≡ (is_among known x || is_among ts x)
among-with_all x known [] = sym (or-false (is_among known x))
among-with_all x known (t ∷ ts) =
    among-with_all x (with_tree known t) ts ∙ ap (λ b. b || is_among ts x) (among-with_tree x t known)
    ∙ or_assoc (is_among known x) (same_tree x t) (is_among ts x)

known_met : (x : Tree) (met : List Tree) → is_among (with_all [] met) x ≡ is_among met x
known_met x met = among-with_all x [] met

-- ---- one subtree more

set-same : {A : Type 0} (xs : List A) (i : ℕ) (x : A) → i < length xs → slice_get (slice_set xs i x) i ≡ Some x
set-same [] i x h = absurd (omega arith)
set-same (y ∷ ys) zero x h = refl
set-same (y ∷ ys) (suc i) x h = set-same ys i x (omega arith)

set-other : {A : Type 0} (xs : List A) (i j : ℕ) (x : A) → ¬ (j ≡ i) → slice_get (slice_set xs i x) j ≡ slice_get xs j
set-other [] i j x other = refl
set-other (y ∷ ys) zero zero x other = absurd (other refl)
set-other (y ∷ ys) zero (suc j) x other = refl
set-other (y ∷ ys) (suc i) zero x other = refl
set-other (y ∷ ys) (suc i) (suc j) x other = set-other ys i j x (λ same. other (ap suc same))

count-set : {A : Type 0} (xs : List A) (i : ℕ) (x : A) → length (slice_set xs i x) ≡ length xs
count-set [] i x = refl
count-set (y ∷ ys) zero x = refl
count-set (y ∷ ys) (suc i) x = ap suc (count-set ys i x)

front-slice_get : {A : Type 0} (xs ys : List A) (j : ℕ) → j < length xs → slice_get (xs ++ ys) j ≡ slice_get xs j
front-slice_get [] ys j h = absurd (omega arith)
front-slice_get (x ∷ xs) ys zero h = refl
front-slice_get (x ∷ xs) ys (suc j) h = front-slice_get xs ys j (omega arith)

last-slice_get : {A : Type 0} (xs : List A) (x : A) (k : ℕ) → k ≡ length xs → slice_get (xs ++ x ∷ []) k ≡ Some x
last-slice_get [] x k h = rw h refl
last-slice_get (y ∷ ys) x zero h = absurd (omega arith)
last-slice_get (y ∷ ys) x (suc k) h = last-slice_get ys x k (omega arith)

-- the number of a tree among some and one more
number_either : (known : List Tree) (t s : Tree) (n : ℕ) → number_in (known ++ t ∷ []) s ≡ Some n
    → (number_in known s ≡ Some n) ⊎ ((s ≡ t) × (n ≡ length known))
number_either [] t s n is = by (same_tree s t) refl is
  where
    by : (b : Bool) → same_tree s t ≡ b → (if b then Some 0 else None) ≡ Some n
        → (number_in [] s ≡ Some n) ⊎ ((s ≡ t) × (n ≡ 0))
    by true same is = inr (same_is s t same, cc)
    by false same is = absurd (cc)
number_either (u ∷ known) t s n is =
    by (same_tree s u) (number_in (known ++ t ∷ []) s) (number_either known t s) is
  where
    by : (b : Bool) (o : Option ℕ)
        → ((m : ℕ) → o ≡ Some m → (number_in known s ≡ Some m) ⊎ ((s ≡ t) × (m ≡ length known)))
        → (if b then Some 0 else option_map suc o) ≡ Some n
        → ((if b then Some 0 else option_map suc (number_in known s)) ≡ Some n)
        ⊎ ((s ≡ t) × (n ≡ suc (length known)))
    by true o rest is = inl is
    by false None rest is = absurd (cc)
    by false (Some m) rest is =
        let next : suc m ≡ n = cc in
        more m next (rest m refl)
      where
        more : (m : ℕ) → suc m ≡ n → (number_in known s ≡ Some m) ⊎ ((s ≡ t) × (m ≡ length known))
            → (option_map suc (number_in known s) ≡ Some n) ⊎ ((s ≡ t) × (n ≡ suc (length known)))
        more m next (inl at) = inl (ap (option_map suc) at ∙ ap Some next)
        more m next (inr last) = inr (last.0, sym next ∙ ap suc last.1)

module _ (eq : Key → Key → Bool) (test : IsKeyTest eq) (keys : List Key) (recurs : List Bool) (met : List Tree) (a : ℕ)
    (l r : Tree) (left right : ℕ) (classes : AreClasses keys recurs met)
    (left_is : class_in (with_all [] met) l ≡ Some left) (right_is : class_in (with_all [] met) r ≡ Some right) where
  abbrev known : List Tree
  known = with_all [] met

  abbrev t : Tree
  t = tree.Split a l r

  abbrev k : Key
  k = (a, left, right)

  key_is : IsKey known k t
  key_is = (refl, left_is, right_is)

  known_after : with_all [] (met ++ t ∷ []) ≡ with_tree known t
  known_after = with_all-append [] met (t ∷ [])

  same_any : list_any (eq k) keys ≡ is_among known t
  same_any = keys_any eq test known k t key_is keys known classes.keys_are

  times_other : (s : Tree) → same_tree s t ≡ false → times_in (met ++ t ∷ []) s ≡ times_in met s
  times_other s other =
      let all = times_last met t s in
      all ∙ ap (λ b. times_in met s + (if b then 1 else 0)) other ∙ omega arith

  times_same : times_in (met ++ t ∷ []) t ≡ suc (times_in met t)
  times_same =
      times_last met t t ∙ ap (λ b. times_in met t + (if b then 1 else 0)) (same_self t) ∙ omega arith

  -- it is new
  module _ (new : list_any (eq k) keys ≡ false) where
    absent : is_among known t ≡ false
    absent = sym same_any ∙ new

    grown : with_all [] (met ++ t ∷ []) ≡ known ++ t ∷ []
    grown = known_after ∙ ap (λ b. if b then known else known ++ t ∷ []) absent

    new_flag : (n : ℕ) (s : Tree) → (number_in known s ≡ Some n) ⊎ ((s ≡ t) × (n ≡ length known))
        → slice_get (recurs ++ false ∷ []) n ≡ Some (nat_lt 1 (times_in (met ++ t ∷ []) s))
    new_flag n s (inl at) =
        let flag = classes.recurs_are n s at in
        let within = slice_get_within recurs n (nat_lt 1 (times_in met s)) flag in
        let there = numbered_or_new known s n at in
        let other : same_tree s t ≡ false = not_same s there in
        front-slice_get recurs (false ∷ []) n within ∙ flag
        ∙ ap (λ m. Some (nat_lt 1 m)) (sym (times_other s other))
      where
        not_same : (s : Tree) → is_among known s ≡ true → same_tree s t ≡ false
        not_same s there = by (same_tree s t) refl
          where
            by : (b : Bool) → same_tree s t ≡ b → b ≡ false
            by false same = refl
            by true same =
                absurd (true≢false (sym there ∙ ap (is_among known) (same_is s t same) ∙ absent))
    new_flag n s (inr last) =
        let none = times_none met t (sym (known_met t met) ∙ absent) in
        let once : nat_lt 1 (times_in (met ++ t ∷ []) s) ≡ false =
        ap (λ x. nat_lt 1 (times_in (met ++ t ∷ []) x)) last.0 ∙ ap (nat_lt 1) (times_same ∙ ap suc none) in
        last-slice_get recurs false n (last.1 ∙ sym classes.count) ∙ ap Some (sym once)

    class_is : length recurs ≡ length known → suc (length known) ≡ length (recurs ++ false ∷ [])
    class_is count = omega (arith, count, length-append recurs (false ∷ []))

    pub meets_new : Meets (keys ++ k ∷ []) (recurs ++ false ∷ []) met t (length (recurs ++ false ∷ []))
    meets_new = record {
      classes = record {
        keys_are =
            subst (λ ks. AreKeys ks (keys ++ k ∷ []) ks) (sym grown)
            (keys_last (known ++ t ∷ []) k t (key_more known (t ∷ []) k t key_is) keys known
            (keys_more known (t ∷ []) keys known classes.keys_are));
        count =
            length-append recurs (false ∷ []) ∙ ap (λ n. n + 1) classes.count
            ∙ sym (length-append known (t ∷ [])) ∙ ap length (sym grown);
        recurs_are = λ n s at. new_flag n s (number_either known t s n (ap (λ ks. number_in ks s) (sym grown) ∙ at));
      };
      is =
          ap (λ ks. option_map suc (number_in ks t)) grown ∙ ap (option_map suc) (number_last known t absent)
          ∙ ap Some (class_is classes.count);
    }

  -- it was met before
  module _ (old : list_any (eq k) keys ≡ true) where
    present : is_among known t ≡ true
    present = sym same_any ∙ old

    same_known : with_all [] (met ++ t ∷ []) ≡ known
    same_known = known_after ∙ ap (λ b. if b then known else known ++ t ∷ []) present

    abbrev number : ℕ
    number = (number_there known t present).0

    numbered : number_in known t ≡ Some number
    numbered = (number_there known t present).1

    place : position_or_len (eq k) keys ≡ number
    place = keys_position eq test known k t key_is keys known classes.keys_are number numbered

    old_flag : (n : ℕ) (s : Tree) → number_in known s ≡ Some n → (b : Bool) → same_tree s t ≡ b
        → slice_get (slice_set recurs number true) n ≡ Some (nat_lt 1 (times_in (met ++ t ∷ []) s))
    old_flag n s at true same =
        let is = same_is s t same in
        let here : Some n ≡ Some number = sym at ∙ ap (number_in known) is ∙ numbered in
        let spot : n ≡ number = cc in
        let within = slice_get_within recurs number (nat_lt 1 (times_in met t))
        (classes.recurs_are number t numbered) in
        let some = times_some met t (sym (known_met t met) ∙ present) in
        let often : nat_lt 1 (times_in (met ++ t ∷ []) t) ≡ true = grind (arith, nat_tests, times_same, some) in
        ap (slice_get (slice_set recurs number true)) spot ∙ set-same recurs number true within
        ∙ ap Some (sym often) ∙ ap (λ x. Some (nat_lt 1 (times_in (met ++ t ∷ []) x))) (sym is)
    old_flag n s at false other =
        let apart : ¬ (n ≡ number) = λ spot. true≢false (sym (ap (λ x. same_tree x t)
        (same_at n s at spot) ∙ same_self t) ∙ other) in
        set-other recurs number n true apart ∙ classes.recurs_are n s at
        ∙ ap (λ m. Some (nat_lt 1 m)) (sym (times_other s other))
      where
        same_at : (n : ℕ) (s : Tree) → number_in known s ≡ Some n → n ≡ number → s ≡ t
        same_at n s at spot =
            let one = number_at known s n at in
            let two = number_at known t number numbered in
            let moved : slice_get known number ≡ Some s = subst (λ m. slice_get known m ≡ Some s) spot one in
            cc

    pub meets_old : Meets keys (slice_set recurs (position_or_len (eq k) keys) true) met t
        (position_or_len (eq k) keys + 1)
    meets_old =
        subst (λ n. Meets keys (slice_set recurs n true) met t (n + 1)) (sym place) (record {
          classes = record {
            keys_are = subst (λ ks. AreKeys ks keys ks) (sym same_known) classes.keys_are;
            count = count-set recurs number true ∙ classes.count ∙ ap length (sym same_known);
            recurs_are = λ n s at. old_flag n s (ap (λ ks. number_in ks s) (sym same_known) ∙ at) (same_tree s t) refl;
          };
          is =
              ap (λ ks. option_map suc (number_in ks t)) same_known ∙ ap (option_map suc) numbered
              ∙ ap Some (sym (add-one number));
        })

-- the test of keys that a table makes
abbrev pub same_key : Key → Key → Bool
same_key k j = nat_eq k.0 j.0 && nat_eq k.1 j.1 && nat_eq k.2 j.2

pub is_key_test : IsKeyTest same_key
is_key_test = record {
  yes = λ k j h.
      let two = both_true (nat_eq k.0 j.0 && nat_eq k.1 j.1) (nat_eq k.2 j.2) h in
      let first = both_true (nat_eq k.0 j.0) (nat_eq k.1 j.1) two.0 in
      let a : k.0 ≡ j.0 = grind (arith, nat_tests, first.0) in
      let b : k.1 ≡ j.1 = grind (arith, nat_tests, first.1) in
      let d : k.2 ≡ j.2 = grind (arith, nat_tests, two.1) in
      (a, (b, d));
  self = λ k j a b d.
      let one : nat_eq k.0 j.0 ≡ true = grind (arith, nat_tests, a) in
      let two : nat_eq k.1 j.1 ≡ true = grind (arith, nat_tests, b) in
      let three : nat_eq k.2 j.2 ≡ true = grind (arith, nat_tests, d) in
      rw (one, two, three) refl;
}

pub flag_false : (b : Bool) → not b ≡ true → b ≡ false
flag_false true h = sym h
flag_false false h = refl

pub flag_true : (b : Bool) → not b ≡ false → b ≡ true
flag_true true h = refl
flag_true false h = sym h
