-- The number of a definition stands once in the terms of a scope: in that of its target.
use Rattle.std.proofs.Common.{◌≡◌, ◌∙◌, ℕ, zero, suc, ◌+◌, ◌<◌, ◌≤◌, nat_eq, nat_lt, Bool, true, false, not, ◌&&◌}
use Rattle.std.proofs.Common.{List, [], ◌∷◌, ◌++◌, map, Option, Some, None, slice_get, refl, sym, ap, subst}
use Rattle.std.proofs.Common.{arith, true≢false, if◌then◌else◌}
use Rattle.std.proofs.lemmas.Bool.Decides.{nat_tests, Decides-eqb}
use Rattle.std.proofs.lemmas.Cmp.{nat_list_eq_equiv}
use Rattle.std.proofs.lemmas.Slice.Eq.{bytes_eq-Decides}
use Rattle.cat_order.specs.Order.{times}
use Rattle.cat_value.specs.declared.decls.Decls.{Decls}
use Rattle.cat_value.specs.declared.declaration.ItemDecl.{ItemDecl}
use Rattle.cat_value.specs.declared.outcome.Target.{Target}
use Rattle.cat_scope.specs.declared.expr.Expr.{Expr}
use Rattle.cat_scope.specs.declared.defs.Def.{Def}
use Rattle.cat_scope.specs.Names.{all_differ, is_in}
use Rattle.cat_scope.specs.Judging.{Held}
use Rattle.cat_scope.specs.Groups.{Numbered, Key, Labelled, Base, Alone, Group, key_of, same_key, is_among, with_key}
use Rattle.cat_scope.specs.Groups.{group_at, groups_from, groups_of, excepts, excepting, roots_of}
use Rattle.cat_scope.specs.Targets.{same_inner, same_target, defs_from}
use Rattle.cat_scope.specs.Chains.{longest_chain}
use Rattle.cat_scope.specs.Forests.{definition_numbers}
use Rattle.cat_calc.specs.declared.term.Justification.{Justification}
use Rattle.cat_calc.specs.declared.term.Justification.TheVariants as justification
use Rattle.cat_calc.specs.declared.term.DefaultTerm.{DefaultTerm}
use Rattle.cat_calc.specs.declared.term.DefaultTerm.TheVariants as leaf
use Rattle.cat_calc.specs.declared.term.DefaultTerm.TheViews as term
use Rattle.cat_calc.specs.Terms.{all_in, consequences_in, numbers_in}
use Rattle.cat_calc.specs.WellFormed.{all_terms, numbers_in_all}
use Rattle.cat_calc.specs.WellFormed.{definition_numbers as numbers_of_terms}
use Rattle.cat_calc.proofs.Equations.{consequences_Empty, consequences_Consequence, consequences_Default}
use Rattle.cat_calc.specs.inside.Numbered.{groups_in}
use Rattle.cat_calc.specs.inside.Terms.{justification_of, definition_term, one_of, own_term, group_term, target_term}
use Rattle.cat_calc.specs.inside.Items.{target_at, term_at, inner_terms, inner_items, item_terms, terms_of_items}
use Rattle.cat_calc.proofs.Climbs.{sum_of, sums_none, one_if, reach, roots_reach}

-- ---- keys

key_is : (a b : Key) → same_key a b ≡ true → a ≡ b
key_is (Labelled l) (Labelled m) h = ap Labelled ((bytes_eq-Decides l m).0 h)
key_is Base Base h = refl
key_is (Alone n) (Alone m) h = ap Alone ((Decides-eqb n m).0 h)
key_is _ _ h = absurd (true≢false (sym h))

key_turned : (a b : Key) → same_key a b ≡ same_key b a
key_turned (Labelled l) (Labelled m) = nat_list_eq_equiv.symm l m
key_turned Base Base = refl
key_turned (Alone n) (Alone m) = grind (arith, nat_tests)
key_turned _ _ = refl

-- ---- how often a number stands in a list

pub times_join : (xs ys : List ℕ) (m : ℕ) → times (xs ++ ys) m ≡ times xs m + times ys m
times_join [] ys m = omega arith
times_join (x ∷ xs) ys m = omega (arith, times_join xs ys m)

numbers_join : (xs ys : List (Held Expr)) → map (λ h. h.number) (xs ++ ys)
    ≡ map (λ h. h.number) xs ++ map (λ h. h.number) ys
numbers_join [] ys = refl
numbers_join (x ∷ xs) ys = ap (λ ns. x.number ∷ ns) (numbers_join xs ys)

not_there : (ns : List ℕ) (m : ℕ) → times ns m ≤ 0 → is_in m ns ≡ false
not_there [] m none = refl
not_there (n ∷ ns) m none = grind (arith, nat_tests, none, not_there ns m)

-- where each stands at most once, all differ
pub differ_of : (ns : List ℕ) → ((m : ℕ) → times ns m ≤ 1) → all_differ ns ≡ true
differ_of [] once = refl
differ_of (n ∷ ns) once =
    ap (λ b. not b && all_differ ns) (not_there ns n (alone (once n)))
    ∙ differ_of ns (λ m. less m (once m))
  where
    alone : times (n ∷ ns) n ≤ 1 → times ns n ≤ 0
    alone h = grind (arith, nat_tests, h)

    less : (m : ℕ) → times (n ∷ ns) m ≤ 1 → times ns m ≤ 1
    less m h = omega (arith, h)

module _ (m : ℕ) where
  -- how often it stands in a term
  abbrev pub count : DefaultTerm → ℕ
  count t = times (numbers_in t) m

  abbrev pub counts : List DefaultTerm → ℕ
  counts [] = 0
  counts (t ∷ ts) = count t + counts ts

  count_all : (ts : List DefaultTerm) → times (map (λ h. h.number) (all_in (map consequences_in ts))) m ≡ counts ts
  count_all [] = refl
  count_all (t ∷ ts) =
      ap (λ ns. times ns m) (numbers_join (consequences_in t) (all_in (map consequences_in ts)))
      ∙ times_join (numbers_in t) (map (λ h. h.number) (all_in (map consequences_in ts))) m
      ∙ ap (λ (n : ℕ). count t + n) (count_all ts)

  count_empty : count leaf.Empty ≡ 0
  count_empty = ap (λ (hs : List (Held Expr)). times (map (λ h. h.number) hs) m) consequences_Empty

  count_default : (ts : List DefaultTerm) (j : Justification) (t : DefaultTerm) → count (term.Default ts j t) ≡ counts ts + count t
  count_default ts j t =
      ap (λ (hs : List (Held Expr)). times (map (λ h. h.number) hs) m) (consequences_Default ts j t)
      ∙ ap (λ ns. times ns m) (numbers_join (all_in (map consequences_in ts)) (consequences_in t))
      ∙ times_join (map (λ h. h.number) (all_in (map consequences_in ts))) (numbers_in t) m
      ∙ ap (λ (n : ℕ). n + count t) (count_all ts)

  count_definition : (d : Numbered) → count (definition_term d) ≡ times (d.0 ∷ []) m
  count_definition d =
      let alone : count (leaf.Consequence d.0 d.1.pos d.1.consequence) ≡ times (d.0 ∷ []) m =
      ap (λ (hs : List (Held Expr)). times (map (λ h. h.number) hs) m)
      (consequences_Consequence d.0 d.1.pos d.1.consequence) in
      omega (
        arith,
        alone,
        count_default [] (justification_of d.1.condition) (leaf.Consequence d.0 d.1.pos d.1.consequence),
      )

  count_definitions : (ds : List Numbered) → counts (map definition_term ds) ≡ times (definition_numbers ds) m
  count_definitions [] = refl
  count_definitions (d ∷ ds) = omega (arith, count_definition d, count_definitions ds)

  count_one_of : (ts : List DefaultTerm) → count (one_of ts) ≡ counts ts
  count_one_of ts = omega (arith, count_default ts justification.Never leaf.Empty, count_empty)

  -- how often it stands among the definitions of a group
  abbrev pub own_count : Option Group → ℕ
  own_count None = 0
  own_count (Some group) = times (definition_numbers group.defs) m

  count_own : (o : Option Group) → count (own_term o) ≡ own_count o
  count_own None = count_empty
  count_own (Some group) = count_one_of (map definition_term group.defs) ∙ count_definitions group.defs

  -- ---- in the terms of groups

  module _ (groups : List Group) (most : ℕ → ℕ → ℕ)
      (grows : (room g : ℕ) → sum_of (most room) (excepting (excepts groups) g) + own_count (slice_get groups g)
      ≤ most (suc room) g) where
    counts_below : (room : ℕ) (gs : List ℕ) → ((g : ℕ) → count (group_term groups room g) ≤ most room g)
        → counts (map (group_term groups room) gs) ≤ sum_of (most room) gs
    counts_below room [] below = omega arith
    counts_below room (g ∷ gs) below = omega (arith, below g, counts_below room gs below)

    count_group : (room g : ℕ) → count (group_term groups room g) ≤ most room g
    unfolding group_term
    count_group zero g = omega (arith, count_empty)
    count_group (suc room) g =
        omega (
          arith,
          count_default (map (group_term groups room) (excepting (excepts groups) g)) justification.Always
              (own_term (slice_get groups g)),
          count_own (slice_get groups g),
          grows room g,
          counts_below room (excepting (excepts groups) g) (count_group room),
        )

    count_target : count (target_term groups) ≤ sum_of (most longest_chain) (roots_of groups)
    count_target =
        omega (
          arith,
          count_one_of (map (group_term groups longest_chain) (roots_of groups)),
          counts_below longest_chain (roots_of groups) (count_group longest_chain),
        )

  -- how often it stands among the definitions of all groups
  abbrev total : List Group → ℕ
  total [] = 0
  total (g ∷ gs) = times (definition_numbers g.defs) m + total gs

  below_total : (gs : List Group) (g : ℕ) → own_count (slice_get gs g) ≤ total gs
  below_total [] g = omega arith
  below_total (x ∷ gs) zero = omega arith
  below_total (x ∷ gs) (suc g) = omega (arith, below_total gs g)

  -- the one group that has it
  record HasHome (gs : List Group) : Type 0 where
    home : ℕ
    alone : (g : ℕ) → own_count (slice_get gs g) ≤ one_if (nat_eq g home)

  home_of : (gs : List Group) → total gs ≤ 1 → HasHome gs
  home_of [] once = record { home = 0; alone = λ g. omega arith }
  home_of (x ∷ gs) once = by (times (definition_numbers x.defs) m) refl (home_of gs)
    where
      there : (k : ℕ) → times (definition_numbers x.defs) m ≡ suc k → (g : ℕ)
          → own_count (slice_get (x ∷ gs) g) ≤ one_if (nat_eq g 0)
      there k is zero = omega (arith, once)
      there k is (suc g) = omega (arith, once, is, below_total gs g)

      next : (g home : ℕ) → nat_eq g home ≡ nat_eq (suc g) (suc home)
      next g home = grind (arith, nat_tests)

      further : (home : ℕ) → times (definition_numbers x.defs) m ≡ 0
          → ((g : ℕ) → own_count (slice_get gs g) ≤ one_if (nat_eq g home)) → (g : ℕ)
          → own_count (slice_get (x ∷ gs) g) ≤ one_if (nat_eq g (suc home))
      further home is alone zero = omega (arith, is)
      further home is alone (suc g) =
          subst (λ (b : Bool). own_count (slice_get gs g) ≤ one_if b) (next g home) (alone g)

      by : (k : ℕ) → times (definition_numbers x.defs) m ≡ k → (total gs ≤ 1 → HasHome gs) → HasHome (x ∷ gs)
      by (suc k) is rest = record { home = 0; alone = there k is }
      by zero is rest =
          let more = rest (omega (arith, once)) in
          record { home = suc more.home; alone = further more.home is more.alone }

  count_none : (groups : List Group) → total groups ≤ 0 → count (target_term groups) ≤ 0
  count_none groups none =
      omega (
        arith,
        sums_none (roots_of groups),
        count_target groups (λ room g. 0)
            (λ room g. omega (arith, sums_none (excepting (excepts groups) g), below_total groups g, none)),
      )

  count_once : (groups : List Group) → HasHome groups → count (target_term groups) ≤ 1
  unfolding reach
  count_once groups has =
      omega (
        arith,
        roots_reach groups longest_chain has.home,
        count_target groups (λ room g. reach (excepts groups) room g has.home) grown,
      )
    where
      grown : (room g : ℕ)
          → sum_of (λ e. reach (excepts groups) room e has.home) (excepting (excepts groups) g)
          + own_count (slice_get groups g) ≤ reach (excepts groups) (suc room) g has.home
      grown room g = omega (arith, has.alone g)

  count_below : (groups : List Group) (bound : ℕ) → bound ≤ 1 → total groups ≤ bound
      → count (target_term groups) ≤ bound
  count_below groups zero one below = count_none groups below
  count_below groups (suc zero) one below = count_once groups (home_of groups below)
  count_below groups (suc (suc bound)) one below = absurd (omega (arith, one))

  -- ---- a definition is in one group

  abbrev keys_from : List Key → List Numbered → List Key
  keys_from seen [] = []
  keys_from seen (d ∷ ds) =
      if is_among (key_of d) seen then keys_from seen ds else key_of d ∷ keys_from (key_of d ∷ seen) ds

  abbrev total_by : List Key → List Numbered → ℕ
  total_by [] all = 0
  total_by (k ∷ ks) all = times (definition_numbers (with_key k all)) m + total_by ks all

  total_of : (all : List Numbered) (seen : List Key) (ds : List Numbered)
      → total (groups_from all seen ds) ≡ total_by (keys_from seen ds) all
  total_of all seen [] = refl
  total_of all seen (d ∷ ds) =
      by (is_among (key_of d) seen) (total_of all seen ds) (total_of all (key_of d ∷ seen) ds)
    where
      by : (b : Bool) → total (groups_from all seen ds) ≡ total_by (keys_from seen ds) all
          → total (groups_from all (key_of d ∷ seen) ds) ≡ total_by (keys_from (key_of d ∷ seen) ds) all
          → total (if b then groups_from all seen ds else group_at all d ∷ groups_from all (key_of d ∷ seen) ds)
          ≡ total_by (if b then keys_from seen ds else key_of d ∷ keys_from (key_of d ∷ seen) ds) all
      by true old new = old
      by false old new = ap (λ (n : ℕ). times (definition_numbers (with_key (key_of d) all)) m + n) new

  -- how many of some keys are this one
  abbrev hits : List Key → Key → ℕ
  hits [] key = 0
  hits (k ∷ ks) key = one_if (same_key k key) + hits ks key

  hits_from : (key : Key) (seen : List Key) (ds : List Numbered)
      → hits (keys_from seen ds) key ≤ one_if (not (is_among key seen))
  hits_from key seen [] = omega arith
  hits_from key seen (d ∷ ds) =
      by (is_among (key_of d) seen) refl (hits_from key seen ds) (hits_from key (key_of d ∷ seen) ds)
    where
      new_key : (b : Bool) → same_key (key_of d) key ≡ b → is_among (key_of d) seen ≡ false
          → hits (keys_from (key_of d ∷ seen) ds) key ≤ one_if (not (if b then true else is_among key seen))
          → one_if b + hits (keys_from (key_of d ∷ seen) ds) key ≤ one_if (not (is_among key seen))
      new_key true same fresh new =
          subst (λ (b : Bool). 1 + hits (keys_from (key_of d ∷ seen) ds) key ≤ one_if (not b))
          (sym (ap (λ (k : Key). is_among k seen) (sym (key_is (key_of d) key same)) ∙ fresh)) (omega (arith, new))
      new_key false same fresh new = omega (arith, new)

      by : (b : Bool) → is_among (key_of d) seen ≡ b
          → hits (keys_from seen ds) key ≤ one_if (not (is_among key seen))
          → hits (keys_from (key_of d ∷ seen) ds) key ≤ one_if (not (is_among key (key_of d ∷ seen)))
          → hits (if b then keys_from seen ds else key_of d ∷ keys_from (key_of d ∷ seen) ds) key
          ≤ one_if (not (is_among key seen))
      by true fresh old new = old
      by false fresh old new = new_key (same_key (key_of d) key) refl fresh
          (subst (λ (b : Bool). hits (keys_from (key_of d ∷ seen) ds) key
          ≤ one_if (not (if b then true else is_among key seen))) (key_turned key (key_of d)) new)

  one_definition_more : (ks : List Key) (d : Numbered) (all : List Numbered) (b : Bool) → nat_eq d.0 m ≡ b
      → total_by ks (d ∷ all) ≤ (if b then hits ks (key_of d) else 0) + total_by ks all
  one_definition_more [] d all true is = omega arith
  one_definition_more [] d all false is = omega arith
  one_definition_more (k ∷ ks) d all b is =
      by b is (same_key k (key_of d)) (one_definition_more ks d all b is)
    where
      by : (b : Bool) → nat_eq d.0 m ≡ b → (c : Bool)
          → total_by ks (d ∷ all) ≤ (if b then hits ks (key_of d) else 0) + total_by ks all
          → times (definition_numbers (if c then d ∷ with_key k all else with_key k all)) m + total_by ks (d ∷ all)
          ≤ (if b then one_if c + hits ks (key_of d) else 0)
          + (times (definition_numbers (with_key k all)) m + total_by ks all)
      by true is true rest =
          subst (λ (b : Bool). (one_if b + times (definition_numbers (with_key k all)) m) + total_by ks (d ∷ all)
          ≤ (1 + hits ks (key_of d)) + (times (definition_numbers (with_key k all)) m + total_by ks all)) (sym is)
          (omega (arith, rest))
      by false is true rest =
          subst (λ (b : Bool). (one_if b + times (definition_numbers (with_key k all)) m) + total_by ks (d ∷ all)
          ≤ 0 + (times (definition_numbers (with_key k all)) m + total_by ks all)) (sym is) (omega (arith, rest))
      by true is false rest = omega (arith, rest)
      by false is false rest = omega (arith, rest)

  total_kept : (ks : List Key) (all : List Numbered) → ((key : Key) → hits ks key ≤ 1)
      → total_by ks all ≤ times (definition_numbers all) m
  total_kept ks [] once = none ks where
    none : (ks : List Key) → total_by ks [] ≤ 0
    none [] = omega arith
    none (k ∷ ks) = omega (arith, none ks)
  total_kept ks (d ∷ all) once = by (nat_eq d.0 m) refl (total_kept ks all once) (one_definition_more ks d all)
    where
      by : (b : Bool) → nat_eq d.0 m ≡ b → total_by ks all ≤ times (definition_numbers all) m
          → ((b : Bool) → nat_eq d.0 m ≡ b
          → total_by ks (d ∷ all) ≤ (if b then hits ks (key_of d) else 0) + total_by ks all)
          → total_by ks (d ∷ all) ≤ one_if (nat_eq d.0 m) + times (definition_numbers all) m
      by true is kept more =
          subst (λ (b : Bool). total_by ks (d ∷ all) ≤ one_if b + times (definition_numbers all) m) (sym is)
          (omega (arith, more true is, once (key_of d), kept))
      by false is kept more =
          subst (λ (b : Bool). total_by ks (d ∷ all) ≤ one_if b + times (definition_numbers all) m) (sym is)
          (omega (arith, more false is, kept))

  total_below : (all : List Numbered) → total (groups_of all) ≤ times (definition_numbers all) m
  total_below all = omega (arith, total_of all [] all, total_kept (keys_from [] all) all (λ key. hits_from key [] all))

  -- ---- it is one of one target

  -- the definition of that number, where these are those from number n on
  abbrev pub def_at : ℕ → List Def → Option Def
  def_at n [] = None
  def_at n (d ∷ defs) = if nat_eq n m then Some d else def_at (n + 1) defs

  abbrev pub is_of : Option Def → Target → ℕ
  is_of None target = 0
  is_of (Some d) target = one_if (same_target d.target target)

  later : (target : Target) (n : ℕ) (defs : List Def) → m < n
      → times (definition_numbers (defs_from target n defs)) m ≡ 0
  later target n [] before = refl
  later target n (d ∷ defs) before =
      by (same_target d.target target) (later target (n + 1) defs (omega (arith, before)))
    where
      by : (b : Bool) → times (definition_numbers (defs_from target (n + 1) defs)) m ≡ 0
          → times (definition_numbers (if b then (n, d) ∷ defs_from target (n + 1) defs
          else defs_from target (n + 1) defs)) m ≡ 0
      by true rest = grind (arith, nat_tests, before, rest)
      by false rest = rest

  of_one : (target : Target) (n : ℕ) (defs : List Def)
      → times (definition_numbers (defs_from target n defs)) m ≤ is_of (def_at n defs) target
  of_one target n [] = omega arith
  of_one target n (d ∷ defs) =
      by (same_target d.target target) refl (nat_eq n m) refl (of_one target (n + 1) defs) (later target (n + 1) defs)
    where
      rest : ℕ
      rest = times (definition_numbers (defs_from target (n + 1) defs)) m

      by : (s : Bool) → same_target d.target target ≡ s → (b : Bool) → nat_eq n m ≡ b
          → rest ≤ is_of (def_at (n + 1) defs) target → (m < n + 1 → rest ≡ 0)
          → times (definition_numbers (if s then (n, d) ∷ defs_from target (n + 1) defs
          else defs_from target (n + 1) defs)) m
          ≤ is_of (if b then Some d else def_at (n + 1) defs) target
      by true same true is more none =
          subst (λ (b : Bool). one_if b + rest ≤ one_if (same_target d.target target)) (sym is)
          (subst (λ (b : Bool). 1 + rest ≤ one_if b) (sym same)
          (omega (arith, none (grind (arith, nat_tests, is)))))
      by true same false is more none =
          subst (λ (b : Bool). one_if b + rest ≤ is_of (def_at (n + 1) defs) target) (sym is) (omega (arith, more))
      by false same true is more none = omega (arith, none (grind (arith, nat_tests, is)))
      by false same false is more none = more

  at_most_one : (o : Option Def) (target : Target) → is_of o target ≤ 1
  at_most_one None target = omega arith
  at_most_one (Some d) target = by (same_target d.target target) where
    by : (b : Bool) → one_if b ≤ 1
    by true = omega arith
    by false = omega arith

  -- it stands in the term of its target alone, and once
  count_at : (defs : List Def) (item : ℕ) (inner : Option ℕ)
      → count (term_at defs item inner) ≤ is_of (def_at 0 defs) (target_at item inner)
  count_at defs item inner =
      let target = target_at item inner in
      count_below (groups_in defs target) (is_of (def_at 0 defs) target) (at_most_one (def_at 0 defs) target)
      (omega (arith, total_below (defs_from target 0 defs), of_one target 0 defs))

  -- ---- in the terms of all items

  -- a definition is one of an inner item from number n on
  abbrev is_inner_from : ℕ → Option ℕ → Bool
  is_inner_from n None = false
  is_inner_from n (Some k) = not (nat_lt k n)

  abbrev is_inside : Option Def → ℕ → ℕ → ℕ
  is_inside None item n = 0
  is_inside (Some d) item n = one_if (nat_eq d.target.item item && is_inner_from n d.target.inner)

  abbrev is_in_item : Option Def → ℕ → ℕ
  is_in_item None item = 0
  is_in_item (Some d) item = one_if (nat_eq d.target.item item)

  abbrev is_from : Option Def → ℕ → ℕ
  is_from None n = 0
  is_from (Some d) n = one_if (not (nat_lt d.target.item n))

  next_inner : (o : Option Def) (item n : ℕ)
      → is_of o (target_at item (Some n)) + is_inside o item (n + 1) ≤ is_inside o item n
  next_inner None item n = omega arith
  next_inner (Some d) item n = by (nat_eq d.target.item item) d.target.inner
    where
      by : (b : Bool) (i : Option ℕ) → one_if (b && same_inner i (Some n)) + one_if (b && is_inner_from (n + 1) i)
          ≤ one_if (b && is_inner_from n i)
      by false i = omega arith
      by true None = omega arith
      by true (Some k) = grind (arith, nat_tests)

  own_or_inner : (o : Option Def) (item : ℕ)
      → is_of o (target_at item None) + is_inside o item 0 ≤ is_in_item o item
  own_or_inner None item = omega arith
  own_or_inner (Some d) item = by (nat_eq d.target.item item) d.target.inner
    where
      by : (b : Bool) (i : Option ℕ) → one_if (b && same_inner i None) + one_if (b && is_inner_from 0 i) ≤ one_if b
      by false i = omega arith
      by true None = omega arith
      by true (Some k) = grind (arith, nat_tests)

  next_item : (o : Option Def) (n : ℕ) → is_in_item o n + is_from o (n + 1) ≤ is_from o n
  next_item None n = omega arith
  next_item (Some d) n = by d.target.item where
    by : (k : ℕ) → one_if (nat_eq k n) + one_if (not (nat_lt k (n + 1))) ≤ one_if (not (nat_lt k n))
    by k = grind (arith, nat_tests)

  count_inner : (defs : List Def) (item n : ℕ) (items : List ItemDecl)
      → times (numbers_in_all (inner_terms defs item n items)) m ≤ is_inside (def_at 0 defs) item n
  count_inner defs item n [] = omega arith
  count_inner defs item n (decl ∷ items) =
      omega (
        arith,
        times_join (numbers_in (term_at defs item (Some n)))
            (numbers_in_all (inner_terms defs item (n + 1) items)) m,
        count_at defs item (Some n),
        count_inner defs item (n + 1) items,
        next_inner (def_at 0 defs) item n,
      )

  count_item : (ds : Decls) (defs : List Def) (item : ℕ) (decl : ItemDecl)
      → times (numbers_in_all (all_terms (item_terms ds defs item decl))) m ≤ is_in_item (def_at 0 defs) item
  count_item ds defs item decl =
      omega (
        arith,
        times_join (numbers_in (term_at defs item None))
            (numbers_in_all (inner_terms defs item 0 (inner_items ds decl.kind))) m,
        count_at defs item None,
        count_inner defs item 0 (inner_items ds decl.kind),
        own_or_inner (def_at 0 defs) item,
      )

  count_items : (ds : Decls) (defs : List Def) (n : ℕ) (items : List ItemDecl)
      → times (numbers_of_terms (terms_of_items ds defs n items)) m ≤ is_from (def_at 0 defs) n
  count_items ds defs n [] = omega arith
  count_items ds defs n (decl ∷ items) =
      omega (
        arith,
        times_join (numbers_in_all (all_terms (item_terms ds defs n decl)))
            (numbers_of_terms (terms_of_items ds defs (n + 1) items)) m,
        count_item ds defs n decl,
        count_items ds defs (n + 1) items,
        next_item (def_at 0 defs) n,
      )

  from_once : (o : Option Def) (n : ℕ) → is_from o n ≤ 1
  from_once None n = omega arith
  from_once (Some d) n = by (not (nat_lt d.target.item n)) where
    by : (b : Bool) → one_if b ≤ 1
    by true = omega arith
    by false = omega arith

-- no two definitions have one number
pub numbers_differ : (ds : Decls) (defs : List Def) (items : List ItemDecl)
    → all_differ (numbers_of_terms (terms_of_items ds defs 0 items)) ≡ true
numbers_differ ds defs items = differ_of (numbers_of_terms (terms_of_items ds defs 0 items))
    (λ m. omega (arith, count_items m ds defs 0 items, from_once m (def_at m 0 defs) 0))
