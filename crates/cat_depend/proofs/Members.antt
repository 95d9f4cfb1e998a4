-- Which numbers stand in a list.
use Rattle.std.proofs.Common.{◌≡◌, ◌<◌, ◌≤◌, ◌&&◌, not, ℕ, zero, suc, Bool, true, false, IsTrue, List, [], ◌∷◌}
use Rattle.std.proofs.Common.{◌++◌, All, refl, sym, ap, ◌∙◌, subst, arith, true≢false, if◌then◌else◌}
use Rattle.std.specs.Prelude.{nat_eq, nat_lt, filter, cond}
use Rattle.std.proofs.lemmas.Bool.Decides.{nat_tests}
use Rattle.cat_order.specs.Order.{times, is_listed}
use Rattle.cat_scope.specs.Names.{AllHave, is_in, all_differ}
use Rattle.cat_sound.proofs.Exported.{listed_in}

-- two numbers are one, or they differ
pub one_or_other : (P : Type 0) (n m : ℕ) → (n ≡ m → P) → (nat_eq n m ≡ false → P) → P
one_or_other P n m one other = by (nat_eq n m) refl
  where
    same : nat_eq n m ≡ true → n ≡ m
    same e = grind (arith, nat_tests)

    by : (b : Bool) → nat_eq n m ≡ b → P
    by true e = one (same e)
    by false e = other e

pub in_here : (n : ℕ) (ns : List ℕ) → is_in n (n ∷ ns) ≡ true
in_here n ns = grind (arith, nat_tests)

pub in_later : (n m : ℕ) (ns : List ℕ) → is_in n ns ≡ true → is_in n (m ∷ ns) ≡ true
in_later n m ns h = by (nat_eq n m)
  where
    by : (b : Bool) → (if b then true else is_in n ns) ≡ true
    by true = refl
    by false = h

-- what stands in a list that begins so: the first, or another one
pub in_cons : (P : Type 0) (n m : ℕ) (ns : List ℕ) → is_in n (m ∷ ns) ≡ true → (n ≡ m → P) → (is_in n ns ≡ true → P)
    → P
in_cons P n m ns h one other =
    one_or_other P n m one (λ e. other (subst (λ (b : Bool). (if b then true else is_in n ns) ≡ true) e h))

pub in_front : (n : ℕ) (front back : List ℕ) → is_in n front ≡ true → is_in n (front ++ back) ≡ true
in_front n [] back h = absurd (true≢false (sym h))
in_front n (m ∷ front) back h =
    in_cons (is_in n (m ∷ (front ++ back)) ≡ true) n m front h
    (λ same. subst (λ (k : ℕ). is_in n (k ∷ (front ++ back)) ≡ true) same (in_here n (front ++ back)))
    (λ g. in_later n m (front ++ back) (in_front n front back g))

pub in_back : (n : ℕ) (front back : List ℕ) → is_in n back ≡ true → is_in n (front ++ back) ≡ true
in_back n [] back h = h
in_back n (m ∷ front) back h = in_later n m (front ++ back) (in_back n front back h)

-- what stands in two lists, one behind the other, stands in one of them
pub in_both : (P : Type 0) (n : ℕ) (front back : List ℕ) → is_in n (front ++ back) ≡ true
    → (is_in n front ≡ true → P) → (is_in n back ≡ true → P) → P
in_both P n [] back h one other = other h
in_both P n (m ∷ front) back h one other =
    in_cons P n m (front ++ back) h
    (λ same. one (subst (λ (k : ℕ). is_in n (k ∷ front) ≡ true) same (in_here n front)))
    (λ g. in_both P n front back g (λ f. one (in_later n m front f)) other)

-- a list before and behind one of its numbers
pub record Split (ns : List ℕ) (n : ℕ) : Type 0 where
  pub front : List ℕ
  pub back : List ℕ
  pub is : ns ≡ front ++ n ∷ back

pub split_at : (ns : List ℕ) (n : ℕ) → is_in n ns ≡ true → Split ns n
split_at [] n h = absurd (true≢false (sym h))
split_at (m ∷ ns) n h =
    in_cons (Split (m ∷ ns) n) n m ns h
    (λ same. record { front = []; back = ns; is = ap (λ (k : ℕ). k ∷ ns) (sym same) })
    (λ g.
    let s = split_at ns n g in
    record { front = m ∷ s.front; back = s.back; is = ap (λ (ks : List ℕ). m ∷ ks) s.is })

-- ---- numbers that are listed

above_zero : (k : ℕ) → IsTrue (nat_lt 0 k) → 0 < k
above_zero k h = grind (arith, nat_tests)

from_above_zero : (k : ℕ) → 0 < k → IsTrue (nat_lt 0 k)
from_above_zero k h = grind (arith, nat_tests)

pub in_of_listed : (ns : List ℕ) (n : ℕ) → IsTrue (is_listed ns n) → is_in n ns ≡ true
in_of_listed ns n h = listed_in ns n (above_zero (times ns n) h)

pub times_in : (ns : List ℕ) (n : ℕ) → is_in n ns ≡ true → 0 < times ns n
times_in [] n h = absurd (true≢false (sym h))
times_in (m ∷ ns) n h = grind (arith, nat_tests, times_in ns n)

pub listed_of_in : (ns : List ℕ) (n : ℕ) → is_in n ns ≡ true → IsTrue (is_listed ns n)
listed_of_in ns n h = from_above_zero (times ns n) (times_in ns n h)

-- ---- numbers that differ

pub differ_first : (n : ℕ) (ns : List ℕ) → all_differ (n ∷ ns) ≡ true → is_in n ns ≡ false
differ_first n ns h = by (is_in n ns) refl h
  where
    by : (b : Bool) → is_in n ns ≡ b → (not b && all_differ ns) ≡ true → is_in n ns ≡ false
    by true e g = absurd (true≢false (sym g))
    by false e g = e

pub differ_rest : (n : ℕ) (ns : List ℕ) → all_differ (n ∷ ns) ≡ true → all_differ ns ≡ true
differ_rest n ns h = by (not (is_in n ns)) h
  where
    by : (b : Bool) → (b && all_differ ns) ≡ true → all_differ ns ≡ true
    by true g = g
    by false g = absurd (true≢false (sym g))

pub differ_more : (n : ℕ) (ns : List ℕ) → is_in n ns ≡ false → all_differ ns ≡ true → all_differ (n ∷ ns) ≡ true
differ_more n ns out h = rw out h

-- what stands in front doesn't stand behind
pub apart : (n : ℕ) (front back : List ℕ) → all_differ (front ++ back) ≡ true → is_in n front ≡ true
    → is_in n back ≡ true → ⊥
apart n [] back differ there behind = true≢false (sym there)
apart n (m ∷ front) back differ there behind =
    in_cons ⊥ n m front there
    (λ same. true≢false (sym (in_back m front back (subst (λ (k : ℕ). is_in k back ≡ true) same behind))
    ∙ differ_first m (front ++ back) differ))
    (λ g. apart n front back (differ_rest m (front ++ back) differ) g behind)

-- each item stands once
pub differ_once : (bound : ℕ) (ns : List ℕ) → AllHave (λ n. n < bound) ns
    → ((n : ℕ) → n < bound → times ns n ≤ 1) → all_differ ns ≡ true
differ_once bound [] below once = refl
differ_once bound (n ∷ ns) below once =
    differ_more n ns (out (is_in n ns) refl)
    (differ_once bound ns below.1 (λ m within. fewer m (once m within)))
  where
    fewer : (m : ℕ) → times (n ∷ ns) m ≤ 1 → times ns m ≤ 1
    fewer m h = grind (arith, nat_tests)

    twice : times (n ∷ ns) n ≤ 1 → 0 < times ns n → ⊥
    twice h g = grind (arith, nat_tests)

    out : (b : Bool) → is_in n ns ≡ b → is_in n ns ≡ false
    out true e = absurd (twice (once n below.0) (times_in ns n e))
    out false e = e

-- ---- filters

module _ (p : ℕ → Bool) where
  pub kept_in : (n : ℕ) (ns : List ℕ) → is_in n ns ≡ true → p n ≡ true → is_in n (filter p ns) ≡ true
  kept_in n [] h passes = h
  kept_in n (m ∷ ns) h passes =
      in_cons (is_in n (filter p (m ∷ ns)) ≡ true) n m ns h
      (λ same. rw (ap p (sym same) ∙ passes)
      (subst (λ (k : ℕ). is_in n (k ∷ filter p ns) ≡ true) same (in_here n (filter p ns))))
      (λ g. by (p m) (kept_in n ns g passes))
    where
      by : (b : Bool) → is_in n (filter p ns) ≡ true
          → is_in n (cond b (m ∷ filter p ns) (filter p ns)) ≡ true
      by true g = in_later n m (filter p ns) g
      by false g = g

  pub in_kept : (n : ℕ) (ns : List ℕ) → is_in n (filter p ns) ≡ true → (is_in n ns ≡ true) × (p n ≡ true)
  in_kept n [] h = absurd (true≢false (sym h))
  in_kept n (m ∷ ns) h = by (p m) refl h (λ f. later (in_kept n ns f))
    where
      later : (is_in n ns ≡ true) × (p n ≡ true) → (is_in n (m ∷ ns) ≡ true) × (p n ≡ true)
      later g = (in_later n m ns g.0, g.1)

      by : (b : Bool) → p m ≡ b → is_in n (cond b (m ∷ filter p ns) (filter p ns)) ≡ true
          → (is_in n (filter p ns) ≡ true → (is_in n (m ∷ ns) ≡ true) × (p n ≡ true))
          → (is_in n (m ∷ ns) ≡ true) × (p n ≡ true)
      by true e g rest = in_cons ((is_in n (m ∷ ns) ≡ true) × (p n ≡ true)) n m (filter p ns) g
          (λ same. (subst (λ (k : ℕ). is_in n (k ∷ ns) ≡ true) same (in_here n ns), ap p same ∙ e)) rest
      by false e g rest = rest g

  pub kept_differ : (ns : List ℕ) → all_differ ns ≡ true → all_differ (filter p ns) ≡ true
  kept_differ [] h = refl
  kept_differ (n ∷ ns) h = by (p n) (kept_differ ns (differ_rest n ns h))
    where
      out : (b : Bool) → is_in n (filter p ns) ≡ b → is_in n (filter p ns) ≡ false
      out true e = absurd (true≢false (sym (in_kept n ns e).0 ∙ differ_first n ns h))
      out false e = e

      by : (b : Bool) → all_differ (filter p ns) ≡ true
          → all_differ (cond b (n ∷ filter p ns) (filter p ns)) ≡ true
      by true rest = differ_more n (filter p ns) (out (is_in n (filter p ns)) refl) rest
      by false rest = rest

  pub kept_all : (P : ℕ → Type 0) (ns : List ℕ) → ((n : ℕ) → is_in n ns ≡ true → p n ≡ true → P n)
      → AllHave P (filter p ns)
  kept_all P [] h = tt
  kept_all P (n ∷ ns) h = by (p n) refl (kept_all P ns (λ m g. h m (in_later m n ns g)))
    where
      by : (b : Bool) → p n ≡ b → AllHave P (filter p ns) → AllHave P (cond b (n ∷ filter p ns) (filter p ns))
      by true e rest = (h n (in_here n ns) e, rest)
      by false e rest = rest

  pub kept_none : (ns : List ℕ) → ((n : ℕ) → is_in n ns ≡ true → p n ≡ false) → filter p ns ≡ []
  kept_none [] h = refl
  kept_none (n ∷ ns) h = rw (h n (in_here n ns)) (kept_none ns (λ m g. h m (in_later m n ns g)))

  pub kept_append : (front back : List ℕ) → filter p (front ++ back) ≡ filter p front ++ filter p back
  kept_append [] back = refl
  kept_append (n ∷ front) back = by (p n) (kept_append front back)
    where
      by : (b : Bool) → filter p (front ++ back) ≡ filter p front ++ filter p back
          → cond b (n ∷ filter p (front ++ back)) (filter p (front ++ back))
          ≡ cond b (n ∷ filter p front) (filter p front) ++ filter p back
      by true rest = ap (λ (ns : List ℕ). n ∷ ns) rest
      by false rest = rest

  -- where a number is kept, with what is kept in front of it
  pub record Kept (ns front : List ℕ) (n : ℕ) : Type 0 where
    pub before : List ℕ
    pub behind : List ℕ
    pub is : ns ≡ before ++ n ∷ behind
    pub front_is : filter p before ≡ front
    pub passes : p n ≡ true

  kept_later : (m : ℕ) (ns front : List ℕ) (n : ℕ) → p m ≡ true → Kept ns front n → Kept (m ∷ ns) (m ∷ front) n
  kept_later m ns front n e k = record {
    before = m ∷ k.before;
    behind = k.behind;
    is = ap (λ (ks : List ℕ). m ∷ ks) k.is;
    front_is = rw e (ap (λ (ks : List ℕ). m ∷ ks) k.front_is);
    passes = k.passes;
  }

  kept_past : (m : ℕ) (ns front : List ℕ) (n : ℕ) → p m ≡ false → Kept ns front n → Kept (m ∷ ns) front n
  kept_past m ns front n e k = record {
    before = m ∷ k.before;
    behind = k.behind;
    is = ap (λ (ks : List ℕ). m ∷ ks) k.is;
    front_is = rw e k.front_is;
    passes = k.passes;
  }

  pub kept_at : (ns front : List ℕ) (n : ℕ) (back : List ℕ) → filter p ns ≡ front ++ n ∷ back → Kept ns front n
  kept_at [] [] n back is = absurd (cc)
  kept_at [] (f ∷ front) n back is = absurd (cc)
  kept_at (m ∷ ns) front n back is = by (p m) refl front is (λ others g. kept_at ns others n back g)
    where
      at : p m ≡ true → (front : List ℕ) → m ∷ filter p ns ≡ front ++ n ∷ back
          → ((others : List ℕ) → filter p ns ≡ others ++ n ∷ back → Kept ns others n) → Kept (m ∷ ns) front n
      at e [] g rest =
          let same : m ≡ n = cc in
          record {
            before = [];
            behind = ns;
            is = ap (λ (k : ℕ). k ∷ ns) same;
            front_is = refl;
            passes = ap p (sym same) ∙ e;
          }
      at e (f ∷ front) g rest =
          let same : m ≡ f = cc in
          let more : filter p ns ≡ front ++ n ∷ back = cc in
          subst (λ (k : ℕ). Kept (m ∷ ns) (k ∷ front) n) same (kept_later m ns front n e (rest front more))

      by : (b : Bool) → p m ≡ b → (front : List ℕ) → cond b (m ∷ filter p ns) (filter p ns) ≡ front ++ n ∷ back
          → ((others : List ℕ) → filter p ns ≡ others ++ n ∷ back → Kept ns others n) → Kept (m ∷ ns) front n
      by true e front g rest = at e front g rest
      by false e front g rest = kept_past m ns front n e (rest front g)

-- ---- what holds of each

pub all_have : (P : ℕ → Type 0) (ns : List ℕ) → ((n : ℕ) → is_in n ns ≡ true → P n) → AllHave P ns
all_have P [] h = tt
all_have P (n ∷ ns) h = (h n (in_here n ns), all_have P ns (λ m g. h m (in_later m n ns g)))

pub all_of_have : (P : ℕ → Type 0) (ns : List ℕ) → AllHave P ns → All P ns
all_of_have P [] h k d within = absurd (omega arith)
all_of_have P (n ∷ ns) h zero d within = h.0
all_of_have P (n ∷ ns) h (suc k) d within = all_of_have P ns h.1 k d (omega (arith, within))
