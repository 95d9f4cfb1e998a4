-- Groups that are told which ones except them, one pair after another.
use Rattle.std.proofs.Common.{◌≡◌, ◌∙◌, ℕ, zero, suc, ◌<◌, ◌+◌, eqb, Bool, true, false, if◌then◌else◌, List, []}
use Rattle.std.proofs.Common.{◌∷◌, ◌++◌, length, get_or}
use Rattle.std.proofs.Common.{set, take, slice_get, Option, Some, None, refl, sym, ap, arith, rules, true≢false}
use Rattle.std.proofs.Math.Logic.{⊎_elim}
use Rattle.std.proofs.lemmas.Bool.Decides.{nat_tests}
use Rattle.std.proofs.lemmas.List.{take_more, length-take, append-nil}
use Rattle.cat_scope.specs.declared.forest.ForestGroup.{ForestGroup}
use Rattle.std.proofs.lemmas.Option.{slice_get_cases}
use Rattle.cat_scope.specs.declared.defs.Def.{Def}
use Rattle.cat_scope.specs.Names.{AllHave}
use Rattle.cat_scope.specs.Groups.{Numbered, Group, target_of, paired, pairs_from, excepting}
use Rattle.cat_scope.specs.Forests.{definition_numbers, forest_groups}
use Rattle.cat_except.specs.inside.Grouping.{numbered, defs_at, group_by, groups_at, ArePlaced}
use Rattle.cat_except.specs.inside.Linking.{pairs_at, targets_from}
use Rattle.cat_except.specs.inside.Linked.{bare_groups, with_pairs}

pub bare_are : (n : ℕ) (lists : List (List ℕ)) → bare_groups lists ≡ with_pairs [] n lists
bare_are n [] = refl
bare_are n (list ∷ lists) = ap (λ gs. record { defs = list; excepted_by = [] } ∷ gs) (bare_are (n + 1) lists)

paired_push : (n : ℕ) (o : Option ℕ) (pairs more : List (ℕ × ℕ)) → paired n o (pairs ++ more) ≡ paired n o pairs ++ more
paired_push n None pairs more = refl
paired_push n (Some h) pairs more = refl

pairs_push : (n : ℕ) (targets : List (Option ℕ)) (o : Option ℕ)
    → pairs_at n (targets ++ o ∷ []) ≡ pairs_at n targets ++ paired (n + length targets) o []
pairs_push n [] o = ap (λ (k : ℕ). paired k o []) (omega arith)
pairs_push n (t ∷ targets) o =
    let at : (n + 1) + length targets ≡ n + suc (length targets) = omega arith in
    ap (paired n t) (pairs_push (n + 1) targets o ∙ ap (λ (k : ℕ). pairs_at (n + 1) targets ++ paired k o []) at)
    ∙ paired_push n t (pairs_at (n + 1) targets) (paired (n + suc (length targets)) o [])

pub pairs_none : (targets : List (Option ℕ)) (i : ℕ) (d : Option ℕ) → i < length targets → get_or targets i d ≡ None
    → pairs_at 0 (take (i + 1) targets) ≡ pairs_at 0 (take i targets)
pairs_none targets i d within is =
    ap (pairs_at 0) (take_more targets i d within ∙ ap (λ (o : Option ℕ). take i targets ++ o ∷ []) is)
    ∙ pairs_push 0 (take i targets) None ∙ append-nil (pairs_at 0 (take i targets))

pub pairs_some : (targets : List (Option ℕ)) (i h : ℕ) (d : Option ℕ) → i < length targets
    → get_or targets i d ≡ Some h → pairs_at 0 (take (i + 1) targets) ≡ pairs_at 0 (take i targets) ++ (i, h) ∷ []
pairs_some targets i h d within is =
    let front : length (take i targets) ≡ i = search (rules, length-take) in
    let at : 0 + length (take i targets) ≡ i = omega (arith, front) in
    ap (pairs_at 0) (take_more targets i d within ∙ ap (λ (o : Option ℕ). take i targets ++ o ∷ []) is)
    ∙ pairs_push 0 (take i targets) (Some h)
    ∙ ap (λ (k : ℕ). pairs_at 0 (take i targets) ++ (k, h) ∷ []) at

excepting_push : (pairs : List (ℕ × ℕ)) (g h n : ℕ)
    → excepting (pairs ++ (g, h) ∷ []) n ≡ excepting pairs n ++ (if eqb h n then g ∷ [] else [])
excepting_push [] g h n = refl
excepting_push (p ∷ pairs) g h n = by (eqb p.1 n) (excepting_push pairs g h n) where
  by : (b : Bool) → excepting (pairs ++ (g, h) ∷ []) n ≡ excepting pairs n ++ (if eqb h n then g ∷ [] else [])
      → (if b then p.0 ∷ excepting (pairs ++ (g, h) ∷ []) n else excepting (pairs ++ (g, h) ∷ []) n)
      ≡ (if b then p.0 ∷ excepting pairs n else excepting pairs n) ++ (if eqb h n then g ∷ [] else [])
  by true rest = ap (λ ns. p.0 ∷ ns) rest
  by false rest = rest

append_if : (xs : List ℕ) (b : Bool) (g : ℕ) → b ≡ false → xs ++ (if b then g ∷ [] else []) ≡ xs
append_if xs true g is = absurd (true≢false is)
append_if [] false g is = refl
append_if (x ∷ xs) false g is = ap (λ ys. x ∷ ys) (append_if xs false g is)

-- groups below the one that is excepted stay
kept : (pairs : List (ℕ × ℕ)) (g h n : ℕ) (lists : List (List ℕ)) → h < n
    → with_pairs (pairs ++ (g, h) ∷ []) n lists ≡ with_pairs pairs n lists
kept pairs g h n [] low = refl
kept pairs g h n (list ∷ lists) low =
    let other : eqb h n ≡ false = grind (arith, nat_tests, low) in
    ap (λ ns. record { defs = list; excepted_by = ns } ∷ with_pairs (pairs ++ (g, h) ∷ []) (n + 1) lists)
    (excepting_push pairs g h n ∙ append_if (excepting pairs n) (eqb h n) g other)
    ∙ ap (λ gs. record { defs = list; excepted_by = excepting pairs n } ∷ gs)
    (kept pairs g h (n + 1) lists (omega (arith, low)))

-- a group with one more that excepts it
abbrev pub excepted_more : ForestGroup → ℕ → ForestGroup
excepted_more group g = record { defs = group.defs; excepted_by = group.excepted_by ++ g ∷ [] }

pub one_pair_more : (pairs : List (ℕ × ℕ)) (g n k : ℕ) (lists : List (List ℕ)) (d : ForestGroup) → k < length lists
    → with_pairs (pairs ++ (g, n + k) ∷ []) n lists
    ≡ set (with_pairs pairs n lists) k (excepted_more (get_or (with_pairs pairs n lists) k d) g)
one_pair_more pairs g n k [] d within = absurd (omega (arith, within))
one_pair_more pairs g n zero (list ∷ lists) d within =
    let here : eqb (n + 0) n ≡ true = grind (arith, nat_tests) in
    let low : n + 0 < n + 1 = omega arith in
    ap (λ ns. record { defs = list; excepted_by = ns } ∷ with_pairs (pairs ++ (g, n + 0) ∷ []) (n + 1) lists)
    (excepting_push pairs g (n + 0) n ∙ ap (λ b. excepting pairs n ++ (if b then g ∷ [] else [])) here)
    ∙ ap (λ gs. record { defs = list; excepted_by = excepting pairs n ++ g ∷ [] } ∷ gs)
    (kept pairs g (n + 0) (n + 1) lists low)
one_pair_more pairs g n (suc k) (list ∷ lists) d within =
    let other : eqb (n + suc k) n ≡ false = grind (arith, nat_tests) in
    let at : n + suc k ≡ (n + 1) + k = omega arith in
    ap (λ ns. record { defs = list; excepted_by = ns } ∷ with_pairs (pairs ++ (g, n + suc k) ∷ []) (n + 1) lists)
    (excepting_push pairs g (n + suc k) n ∙ append_if (excepting pairs n) (eqb (n + suc k) n) g other)
    ∙ ap (λ (m : ℕ). record { defs = list; excepted_by = excepting pairs n } ∷ with_pairs (pairs ++ (g, m) ∷ []) (n + 1)
    lists) at
    ∙ ap (λ gs. record { defs = list; excepted_by = excepting pairs n } ∷ gs)
    (one_pair_more pairs g (n + 1) k lists d (omega (arith, within)))

pub length_with : (pairs : List (ℕ × ℕ)) (n : ℕ) (lists : List (List ℕ)) → length (with_pairs pairs n lists) ≡ length
    lists
length_with pairs n [] = refl
length_with pairs n (list ∷ lists) = ap suc (length_with pairs (n + 1) lists)

-- a group that is written is the one that was read with one more that excepts it
written : (groups : List ForestGroup) (h g : ℕ) (read : ForestGroup) (ns : List ℕ)
    → ns ≡ (get_or groups h read).excepted_by ++ g ∷ []
    → set groups h (record { defs = (get_or groups h read).defs; excepted_by = ns })
    ≡ set groups h (excepted_more (get_or groups h read) g)
written groups h g read ns grows =
    ap (λ ms. set groups h (record { defs = (get_or groups h read).defs; excepted_by = ms })) grows

pub add_step : (targets : List (Option ℕ)) (i h : ℕ) (d : Option ℕ) (start groups : List ForestGroup)
    (read : ForestGroup) (ns : List ℕ) (lists : List (List ℕ)) → i < length targets → get_or targets i d ≡ Some h
    → h < length start → ns ≡ (get_or groups h read).excepted_by ++ i ∷ []
    → start ≡ with_pairs [] 0 lists → groups ≡ with_pairs (pairs_at 0 (take i targets)) 0 lists
    → set groups h (record { defs = (get_or groups h read).defs; excepted_by = ns })
    ≡ with_pairs (pairs_at 0 (take (i + 1) targets)) 0 lists
add_step targets i h d start groups read ns lists within at low grows bare before =
    let front : List (ℕ × ℕ) = pairs_at 0 (take i targets) in
    let inside : h < length lists =
    omega (arith, low, ap (λ (gs : List ForestGroup). length gs) bare, length_with [] 0 lists) in
    let zero_more : 0 + h ≡ h = omega arith in
    written groups h i read ns grows
    ∙ ap (λ (gs : List ForestGroup). set gs h (excepted_more (get_or gs h read) i)) before
    ∙ sym (one_pair_more front i 0 h lists read inside)
    ∙ ap (λ (k : ℕ). with_pairs (front ++ (i, k) ∷ []) 0 lists) zero_more
    ∙ sym (ap (λ ps. with_pairs ps 0 lists) (pairs_some targets i h d within at))

pub length_bare : (lists : List (List ℕ)) → length (bare_groups lists) ≡ length lists
length_bare [] = refl
length_bare (list ∷ lists) = ap suc (length_bare lists)

-- the groups of the forest
pub pairs_are : (all : List Group) (n : ℕ) (gs : List Group) → pairs_at n (targets_from all gs) ≡ pairs_from all n gs
pairs_are all n [] = refl
pairs_are all n (g ∷ gs) = ap (paired n (target_of all g.except)) (pairs_are all (n + 1) gs)

numbers_are : (defs : List Def) (ns : List ℕ) → AllHave (λ n. n < length defs) ns
    → definition_numbers (defs_at defs ns) ≡ ns
numbers_are defs [] all = refl
numbers_are defs (n ∷ ns) all = by (slice_get defs n) refl (numbers_are defs ns all.1) where
  by : (o : Option Def) → slice_get defs n ≡ o → definition_numbers (defs_at defs ns) ≡ ns
      → definition_numbers (numbered n o (defs_at defs ns)) ≡ n ∷ ns
  by None is rest = ⊎_elim (λ found. absurd (search (rules, sym is ∙ found.2)))
      (λ past. absurd (omega (arith, all.0, past.0))) (slice_get_cases defs n).1
  by (Some d) is rest = ap (λ ms. n ∷ ms) rest

group_numbers_are : (ds : List Numbered) → definition_numbers (group_by ds).defs ≡ definition_numbers ds
group_numbers_are [] = refl
group_numbers_are (d ∷ ds) = refl

pub forest_groups_are : (defs : List Def) (pairs : List (ℕ × ℕ)) (n : ℕ) (lists : List (List ℕ)) → ArePlaced defs lists
    → with_pairs pairs n lists ≡ forest_groups pairs n (groups_at defs lists)
forest_groups_are defs pairs n [] placed = refl
forest_groups_are defs pairs n (list ∷ lists) placed =
    ap (λ ns. record { defs = ns; excepted_by = excepting pairs n } ∷ with_pairs pairs (n + 1) lists)
    (sym (group_numbers_are (defs_at defs list) ∙ numbers_are defs list placed.0.1))
    ∙ ap (λ gs. record {
      defs = definition_numbers (group_by (defs_at defs list)).defs;
      excepted_by =
          excepting pairs n;
    } ∷ gs)
    (forest_groups_are defs pairs (n + 1) lists placed.1)
