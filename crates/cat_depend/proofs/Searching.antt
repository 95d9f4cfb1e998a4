-- A search under way, and what it comes to.
use Rattle.std.proofs.Common.{◌≡◌, ◌<◌, ◌+◌, ◌||◌, ◌⊎◌, ℕ, zero, suc, nat_eq, Bool, true, false, IsTrue, List, [], ◌∷◌}
use Rattle.std.proofs.Common.{◌++◌, length, set, get_or, take, All, refl, sym, ap, ◌∙◌, subst, arith, true≢false}
use Rattle.std.proofs.Common.{inl, inr}
use Rattle.std.proofs.lemmas.List.{length-set, get_or-set_same, get_or-set_other, take_more, length-append}
use Rattle.std.proofs.lemmas.List.{get_or_default}
use Rattle.std.proofs.Math.ListN.{get_or-append}
use Rattle.std.proofs.lemmas.List.Elements.{All-append}
use Rattle.std.proofs.lemmas.Bool.{cases_eq, ne_eqb}
use Rattle.std.proofs.lemmas.Bool.Decides.{nat_tests}
use Rattle.std.proofs.Math.Logic.{⊎_elim}
use Rattle.cat_order.specs.Order.{dependencies_of, is_listed}
use Rattle.cat_order.specs.Cycle.{DependsOn, IsPath, IsOnCycle}
use Rattle.cat_depend.specs.CycleWays.{LeadsTo}
use Rattle.cat_depend.specs.inside.Searching.{is_marked, IsSearched, left_over}
use Rattle.cat_depend.proofs.Cycles.{within_of_IsOnCycle}
use Rattle.cat_depend.proofs.Listing.{all_listed, listed_both, listed_last, listed_push}

-- numbers wait that the search came to; what a marked one leads to is marked or waits
pub record IsUnderWay (deps : List (List ℕ)) (goal from : ℕ) (old marks : List Bool) (waiting : List ℕ) : Type 0 where
  pub counted : length marks ≡ length deps
  pub numbers : All (λ n. n < length deps) waiting
  pub reached : (n : ℕ) → IsTrue (is_listed waiting n) → LeadsTo deps from n
  pub kept : (n : ℕ) → is_marked old n ≡ true → is_marked marks n ≡ true
  pub closed : (n m : ℕ) → is_marked marks n ≡ true → DependsOn deps n m
      → (is_marked marks m || is_listed waiting m) ≡ true
  pub apart : is_marked marks goal ≡ false
  pub begun : (is_marked marks from || is_listed waiting from) ≡ true

or_right : (a b : Bool) → b ≡ true → (a || b) ≡ true
or_right true b h = refl
or_right false b h = h

-- ---- ways

path_more : (deps : List (List ℕ)) (from : ℕ) (path : List ℕ) (x n : ℕ) → IsPath deps from path x → DependsOn deps x n
    → IsPath deps from (path ++ x ∷ []) n
path_more deps from [] x n way on = (way, on)
path_more deps from (via ∷ path) x n way on = (way.0, path_more deps via path x n way.1 on)

one_more : (deps : List (List ℕ)) (from x n : ℕ) → LeadsTo deps from x → DependsOn deps x n → LeadsTo deps from n
one_more deps from x n (inl same) on = inr ([], subst (λ (y : ℕ). DependsOn deps y n) (sym same) on)
one_more deps from x n (inr way) on = inr (way.0 ++ x ∷ [], path_more deps from way.0 x n way.1 on)

-- ---- marks

marks_kept : (marks : List Bool) (x n : ℕ) → is_marked marks n ≡ true → is_marked (set marks x true) n ≡ true
marks_kept [] x n h = h
marks_kept (b ∷ marks) zero zero h = refl
marks_kept (b ∷ marks) zero (suc n) h = h
marks_kept (b ∷ marks) (suc x) zero h = h
marks_kept (b ∷ marks) (suc x) (suc n) h = marks_kept marks x n h

left_set : (deps : List (List ℕ)) (marks : List Bool) (x : ℕ) → x < length deps → length marks ≡ length deps
    → is_marked marks x ≡ false
    → left_over deps (set marks x true) + (1 + length (dependencies_of deps x)) ≡ left_over deps marks
left_set [] marks x within counted out = absurd (omega (arith, within))
left_set (ns ∷ deps) [] x within counted out = absurd (omega (arith, counted))
left_set (ns ∷ deps) (true ∷ marks) zero within counted out = absurd (true≢false out)
left_set (ns ∷ deps) (false ∷ marks) zero within counted out = omega arith
left_set (ns ∷ deps) (b ∷ marks) (suc x) within counted out =
    let rest : left_over deps (set marks x true) + (1 + length (dependencies_of deps x)) ≡ left_over deps marks =
    left_set deps marks x (omega (arith, within)) (omega (arith, counted)) out in
    by b rest
  where
    by : (c : Bool) → left_over deps (set marks x true) + (1 + length (dependencies_of deps x)) ≡ left_over deps marks
        → left_over (ns ∷ deps) (c ∷ set marks x true) + (1 + length (dependencies_of deps x))
        ≡ left_over (ns ∷ deps) (c ∷ marks)
    by true rest = omega (arith, rest)
    by false rest = omega (arith, rest)

-- ---- a number that no longer waits

module _ (deps : List (List ℕ)) (goal from : ℕ) (old marks : List Bool) (rest : List ℕ) (x : ℕ)
    (way : IsUnderWay deps goal from old marks (rest ++ x ∷ [])) where
  pub reached_last : LeadsTo deps from x
  reached_last = way.reached x (grind (arith, nat_tests, listed_last rest x x))

  pub last_within : x < length deps
  last_within = all_listed (λ n. n < length deps) (rest ++ x ∷ []) way.numbers x
      (grind (arith, nat_tests, listed_last rest x x))

  front_within : All (λ n. n < length deps) rest
  front_within k d h = subst (λ (n : ℕ). n < length deps) (get_or-append rest (x ∷ []) d k h)
      (way.numbers k d (omega (arith, h, length-append rest (x ∷ []))))

  still : (m : ℕ) → is_marked marks x ≡ true → (is_marked marks m || is_listed (rest ++ x ∷ []) m) ≡ true
      → (is_marked marks m || is_listed rest m) ≡ true
  still m there h = ⊎_elim
      (λ here. subst (λ (n : ℕ). (is_marked marks n || is_listed rest n) ≡ true) here (rw there refl))
      (λ other. grind (arith, nat_tests, listed_last rest x m, h))
      (cases_eq x m)

  pub passed_over : is_marked marks x ≡ true → IsUnderWay deps goal from old marks rest
  passed_over there = record {
    counted = way.counted;
    numbers = front_within;
    reached = λ n h. way.reached n (grind (arith, nat_tests, listed_last rest x n, h));
    kept = way.kept;
    closed = λ n m h on. still m there (way.closed n m h on);
    apart = way.apart;
    begun = still from there way.begun;
  }

  abbrev next : List ℕ
  next = dependencies_of deps x

  abbrev marked : List Bool
  marked = set marks x true

  marked_x : is_marked marked x ≡ true
  marked_x = get_or-set_same marks x true false (omega (arith, last_within, way.counted))

  moved : (m : ℕ) → (is_marked marks m || is_listed (rest ++ x ∷ []) m) ≡ true
      → (is_marked marked m || is_listed (rest ++ next) m) ≡ true
  moved m h = ⊎_elim
      (λ here. subst (λ (n : ℕ). (is_marked marked n || is_listed (rest ++ next) n) ≡ true) here
      (rw marked_x refl))
      (λ other. by (ne_eqb x m other) (is_marked marks m) refl)
      (cases_eq x m)
    where
      by : nat_eq x m ≡ false → (b : Bool) → is_marked marks m ≡ b
          → (is_marked marked m || is_listed (rest ++ next) m) ≡ true
      by apart true e = rw (marks_kept marks x m e) refl
      by apart false e = let there : is_listed rest m ≡ true = grind
          (arith, nat_tests, listed_last rest x m, apart, h, e)
          in
          or_right (is_marked marked m) (is_listed (rest ++ next) m)
          (listed_both rest next m ∙ ap (λ b. b || is_listed next m) there)

  behind_x : (n : ℕ) → IsTrue (is_listed (rest ++ next) n) → (b : Bool) → is_listed rest n ≡ b → LeadsTo deps from n
  behind_x n h true e = way.reached n (listed_last rest x n ∙ ap (λ b. b || nat_eq x n) e)
  behind_x n h false e = one_more deps from x n reached_last
      (sym (listed_both rest next n ∙ ap (λ b. b || is_listed next n) e) ∙ h)

  leads_on : (n m : ℕ) → is_marked marked n ≡ true → DependsOn deps n m
      → (is_marked marked m || is_listed (rest ++ next) m) ≡ true
  leads_on n m h on = ⊎_elim
      (λ here. or_right (is_marked marked m) (is_listed (rest ++ next) m) (listed_both rest next m
      ∙ or_right (is_listed rest m) (is_listed next m) (subst (λ (k : ℕ). DependsOn deps k m) (sym here) on)))
      (λ other. moved m (way.closed n m
      (sym (get_or-set_other marks x n true false (λ e. other (sym e))) ∙ h) on))
      (cases_eq x n)

  pub marks_on : (x ≡ goal → ⊥) → All (λ n. n < length deps) next → IsUnderWay deps goal from old marked (rest ++ next)
  marks_on apart within = record {
    counted = length-set marks x true ∙ way.counted;
    numbers = All-append (λ n. n < length deps) rest next front_within within;
    reached = λ n h. behind_x n h (is_listed rest n) refl;
    kept = λ n h. marks_kept marks x n (way.kept n h);
    closed = leads_on;
    apart = get_or-set_other marks x goal true false (λ e. apart (sym e)) ∙ way.apart;
    begun = moved from way.begun;
  }

  pub fewer : is_marked marks x ≡ false
      → length (rest ++ next) + left_over deps marked < length (rest ++ x ∷ []) + left_over deps marks
  fewer out = omega (
    arith,
    left_set deps marks x last_within way.counted out,
    length-append rest next,
    length-append rest (x ∷ []),
  )

-- ---- round a cycle

along : (deps : List (List ℕ)) (goal : ℕ) (marks : List Bool) → IsSearched deps goal marks → (n : ℕ) (path : List ℕ)
    → is_marked marks n ≡ true → IsPath deps n path goal → is_marked marks goal ≡ true
along deps goal marks searched n [] there way = searched.closed n goal there way
along deps goal marks searched n (via ∷ path) there way =
    along deps goal marks searched via path (searched.closed n via there way.0) way.1

-- where all that a number leads to at once is marked, it is on no cycle
pub no_cycle : (deps : List (List ℕ)) (start : ℕ) (marks : List Bool) → IsSearched deps start marks
    → ((n : ℕ) → DependsOn deps start n → is_marked marks n ≡ true) → IsOnCycle deps start → ⊥
unfolding IsOnCycle
no_cycle deps start marks searched all on = by on.0 on.1
  where
    by : (path : List ℕ) → IsPath deps start path start → ⊥
    by [] way = true≢false (sym (all start way) ∙ searched.apart)
    by (via ∷ path) way =
        true≢false (sym (along deps start marks searched via path (all via way.0) way.1) ∙ searched.apart)

-- what a number on a cycle leads to
pub starting : (deps : List (List ℕ)) (start : ℕ) → IsOnCycle deps start → (ns found : List ℕ) → ns ≡ found
    → found ≡ get_or deps start found → ns ≡ dependencies_of deps start
starting deps start on ns found same is =
    same ∙ is ∙ get_or_default deps start found [] (within_of_IsOnCycle deps start on)

-- one more of those that a number leads to is marked
pub passed_more : (ns : List ℕ) (i : ℕ) (old new : List Bool) → i < length ns
    → ((n : ℕ) → IsTrue (is_listed (take i ns) n) → is_marked old n ≡ true)
    → ((n : ℕ) → is_marked old n ≡ true → is_marked new n ≡ true) → is_marked new (get_or ns i 0) ≡ true
    → (n : ℕ) → IsTrue (is_listed (take (i + 1) ns) n) → is_marked new n ≡ true
passed_more ns i old new within passed kept here n h = ⊎_elim
    (λ same. subst (λ (m : ℕ). is_marked new m ≡ true) same here)
    (λ other. kept n (passed n (listed_push (take i ns) (get_or ns i 0) n other
    (subst (λ xs. IsTrue (is_listed xs n)) (take_more ns i 0 within) h))))
    (cases_eq (get_or ns i 0) n)
