-- Facts on the targets of a scope, one target further.
use Rattle.std.proofs.Common.{◌≡◌, ◌∙◌, ℕ, zero, suc, ◌<◌, ◌+◌, List, [], ◌∷◌, ◌++◌, length, get_or, Option}
use Rattle.std.proofs.Common.{Some}
use Rattle.std.proofs.Common.{inl, inr, slice_get, refl, sym, ap, subst, arith}
use Rattle.std.proofs.lemmas.List.{append_assoc}
use Rattle.cat_pos.specs.declared.pos.Pos.{Pos}
use Rattle.cat_scope.specs.declared.defs.Def.{Def}
use Rattle.cat_value.specs.declared.outcome.Target.{Target}
use Rattle.cat_scope.specs.Names.{AllHave, IsOneOf}
use Rattle.cat_scope.specs.Groups.{Group, excepts}
use Rattle.cat_scope.specs.Chains.{IsChain, longest_chain}
use Rattle.cat_except.specs.declared.refusal.ExceptRefusal.{ExceptRefusal}
use Rattle.cat_except.specs.declared.refusal.ExceptRefusal.TheVariants as refusal
use Rattle.cat_except.specs.declared.groups.Groups.{Groups}
use Rattle.cat_except.specs.declared.linked.Linked.{Linked}
use Rattle.cat_except.specs.Excepted.{HasWord, excepted_of, last_exception, StandsOnCycle, StandsPastLimit}
use Rattle.cat_except.specs.Causes.{StandsIn}
use Rattle.cat_except.specs.inside.Grouping.{groups_at}
use Rattle.cat_except.specs.inside.Linking.{targets_from, lists_of, pairs_at}
use Rattle.cat_except.specs.inside.Finding.{groups_at_each, AreGroupsOfEach}
use Rattle.cat_except.specs.inside.Linked.{word_at, IsLinked, linked_groups, linked_targets, group_targets, IsCycleIn}
use Rattle.cat_except.specs.inside.Linked.{forest_at, with_pairs}
use Rattle.cat_pos.specs.declared.limits.TheConstants.{ENTRIES_BOUND}
use Rattle.cat_scope.specs.declared.forest.ForestTarget.{ForestTarget}
use Rattle.cat_scope.specs.Forests.{forest_of_groups}
use Rattle.cat_except.proofs.Pairs.{pairs_are, forest_groups_are}
use Rattle.cat_except.specs.inside.Chains.{target_at, IsTooLong, IsLimit}
use Rattle.cat_except.proofs.Grouped.{all_push}
use Rattle.cat_except.proofs.Linking.{lists_excepted, last_excepts, ExceptsOne, excepts_within, has_word, targets_low}
use Rattle.cat_except.proofs.Linking.{as_many_groups}

pub all_at : {A : Type 0} (P : A → Type 0) (xs : List A) (i : ℕ) (d : A) → AllHave P xs → i < length xs
    → P (get_or xs i d)
all_at P [] i d all within = absurd (omega (arith, within))
all_at P (x ∷ xs) zero d all within = all.0
all_at P (x ∷ xs) (suc i) d all within = all_at P xs i d all.1 (omega (arith, within))

targets_push : (ls : List Linked) (l : Linked) → linked_targets (ls ++ l ∷ []) ≡ linked_targets ls ++ l.target ∷ []
targets_push [] l = refl
targets_push (m ∷ ls) l = ap (λ ps. m.target ∷ ps) (targets_push ls l)

groups_push : (defs : List Def) (ls : List Linked) (l : Linked)
    → linked_groups defs (ls ++ l ∷ []) ≡ linked_groups defs ls ++ groups_at defs l.lists.items ∷ []
groups_push defs [] l = refl
groups_push defs (m ∷ ls) l = ap (λ gs. groups_at defs m.lists.items ∷ gs) (groups_push defs ls l)

pub targets_step : (made : List Linked) (l : Linked) (target : Target) (rest : List Target) → l.target ≡ target
    → linked_targets (made ++ l ∷ []) ++ rest ≡ linked_targets made ++ target ∷ rest
targets_step made l target rest is =
    ap (λ ps. ps ++ rest) (targets_push made l) ∙ append_assoc (linked_targets made) (l.target ∷ []) rest
    ∙ ap (λ (p : Target). linked_targets made ++ p ∷ rest) is

pub groups_step : (defs : List Def) (made : List Linked) (l : Linked) (lists : List (List ℕ)) (rest : List (List Group))
    → l.lists.items ≡ lists
    → linked_groups defs (made ++ l ∷ []) ++ rest ≡ linked_groups defs made ++ groups_at defs lists ∷ rest
groups_step defs made l lists rest is =
    ap (λ gs. gs ++ rest) (groups_push defs made l) ∙ append_assoc (linked_groups defs made)
    ((groups_at defs l.lists.items) ∷ []) rest
    ∙ ap (λ (ls : List (List ℕ)). linked_groups defs made ++ groups_at defs ls ∷ rest) is

among : {A : Type 0} (xs : List A) (x : A) (ys : List A) → IsOneOf x (xs ++ x ∷ ys)
among [] x ys = inl refl
among (z ∷ xs) x ys = inr (among xs x ys)

-- a cycle in the groups of one target is one of the scope
cycle_up : (P Q : Pos → Type 0) → ((p : Pos) → P p → Q p) → (e : ExceptRefusal) → IsCycleIn P e → IsCycleIn Q e
cycle_up P Q go (refusal.ExceptionCycle p) is = go p is
cycle_up P Q go refusal.Memory is = tt
cycle_up P Q go (refusal.LabelUnknown p) is = elim is [ ]
cycle_up P Q go (refusal.LabelSplit p) is = elim is [ ]
cycle_up P Q go (refusal.ExceptionAmbiguous p) is = elim is [ ]
cycle_up P Q go (refusal.TooMany p) is = elim is [ ]

pub cycle_in : (made : List (List Group)) (groups : List Group) (rest all : List (List Group)) (e : ExceptRefusal)
    → made ++ groups ∷ rest ≡ all → IsCycleIn (StandsOnCycle groups) e → IsCycleIn (StandsIn StandsOnCycle all) e
cycle_in made groups rest all e is stands =
    cycle_up (StandsOnCycle groups) (StandsIn StandsOnCycle all)
    (λ p on. (groups, subst (λ (ts : List (List Group)). IsOneOf groups ts) is (among made groups rest), on)) e stands

-- the targets that were put in order so far, and those that are left
pub record AreSoFar (defs : List Def) (made : List Linked) (left start : List Groups) : Type 0 where
  pub targets : linked_targets made ++ group_targets left ≡ group_targets start
  pub groups : linked_groups defs made ++ groups_at_each defs left ≡ groups_at_each defs start
  pub linked : AllHave (IsLinked defs) made
  pub known : AreGroupsOfEach defs left

pub so_far_step : (defs : List Def) (made new : List Linked) (g : Groups) (left rest start : List Groups) (l : Linked)
    → left ≡ g ∷ rest → AreSoFar defs made left start → l.target ≡ g.target → l.lists.items ≡ g.lists.items
    → IsLinked defs l → new ≡ made ++ l ∷ [] → AreSoFar defs new rest start
so_far_step defs made new g left rest start l is before target lists linked more =
    subst (λ (ms : List Linked). AreSoFar defs ms rest start) (sym more) (record {
      targets = targets_step made l g.target (group_targets rest) target
          ∙ subst (λ (gs : List Groups). linked_targets made ++ group_targets gs ≡ group_targets start) is
          before.targets;
      groups = groups_step defs made l g.lists.items (groups_at_each defs rest) lists
          ∙ subst (λ (gs : List Groups). linked_groups defs made ++ groups_at_each defs gs ≡ groups_at_each defs start)
          is
          before.groups;
      linked = all_push (IsLinked defs) made l before.linked linked;
      known = (subst (λ (gs : List Groups). AreGroupsOfEach defs gs) is before.known).1;
    })

pub cycle_here : (defs : List Def) (made : List Linked) (g : Groups) (left rest start all : List Groups)
    (e : ExceptRefusal) → left ≡ g ∷ rest → start ≡ all → AreSoFar defs made left start
    → IsCycleIn (StandsOnCycle (groups_at defs g.lists.items)) e
    → IsCycleIn (StandsIn StandsOnCycle (groups_at_each defs all)) e
cycle_here defs made g left rest start all e is whole before stands =
    cycle_in (linked_groups defs made) (groups_at defs g.lists.items) (groups_at_each defs rest)
    (groups_at_each defs all) e
    (subst (λ (gs : List Groups). linked_groups defs made ++ groups_at_each defs gs ≡ groups_at_each defs all) is
    (before.groups ∙ ap (groups_at_each defs) whole)) stands

one_linked : (defs : List Def) (targets : List Linked) (i : ℕ) (l : Linked) → i < length targets
    → IsOneOf (groups_at defs (get_or targets i l).lists.items) (linked_groups defs targets)
one_linked defs [] i l within = absurd (omega (arith, within))
one_linked defs (t ∷ targets) zero l within = inl refl
one_linked defs (t ∷ targets) (suc i) l within = inr (one_linked defs targets i l (omega (arith, within)))

-- a chain that is too long has a last exception
pub too_long_excepts : (excepted : List (Option ℕ)) (last : ℕ) → IsTooLong excepted last → ExceptsOne excepted last
too_long_excepts excepted last long = by long.0 long.1 long.2 long.3 where
  by : (chain : List ℕ) → IsChain (lists_of excepted) chain → length chain ≡ longest_chain + 1
      → last_exception chain ≡ last → ExceptsOne excepted last
  by [] chain many is = absurd (omega (arith, many))
  by (g ∷ []) chain many is = absurd (omega (arith, many))
  by (g ∷ h ∷ ns) chain many is =
      subst (λ (n : ℕ). ExceptsOne excepted n) is (last_excepts excepted g h ns chain)

pub long_excepts : (defs : List Def) (l : Linked) (last : ℕ) → IsLinked defs l → IsTooLong l.excepted.items last
    → ExceptsOne (targets_from (groups_at defs l.lists.items) (groups_at defs l.lists.items)) last
long_excepts defs l last linked long =
    subst (λ (ts : List (Option ℕ)). ExceptsOne ts last) linked.excepted (too_long_excepts l.excepted.items last long)

-- a chain that was found is too long
pub found_long : (excepted slice : List (Option ℕ)) (found : Option ℕ) (last : ℕ) → slice ≡ excepted → found ≡ Some last
    → IsLimit slice found → IsTooLong excepted last
found_long excepted slice found last is at limit =
    subst (λ (ts : List (Option ℕ)). IsTooLong ts last) is (subst (λ (o : Option ℕ). IsLimit slice o) at limit)

pub limit_in : (defs : List Def) (targets : List Linked) (i : ℕ) (l : Linked) (last : ℕ) (p : Pos) → i < length targets
    → get_or targets i l ≡ l → IsLinked defs l → IsTooLong l.excepted.items last
    → word_at defs l.lists.items last ≡ Some p → StandsIn StandsPastLimit (linked_groups defs targets) p
limit_in defs targets i l last p within at linked long word =
    let gs : List Group = groups_at defs l.lists.items in
    let deps : lists_of l.excepted.items ≡ excepted_of gs = ap lists_of linked.excepted ∙ lists_excepted gs gs in
    let one : ExceptsOne (targets_from gs gs) last = long_excepts defs l last linked long in (
      gs,
      subst (λ (m : Linked). IsOneOf (groups_at defs m.lists.items) (linked_groups defs targets)) at
          (one_linked defs targets i l within),
      (
        long.0,
        subst (λ (ds : List (List ℕ)). IsChain ds long.0) deps long.1,
        long.2,
        subst (λ (n : ℕ). HasWord (slice_get gs n) p) (sym long.3)
            (has_word defs l.lists.items last p (excepts_within defs gs l.lists.items last one.0 one.1) word),
      ),
    )

-- what a target in order has for its forest
as_many_excepted : (all gs : List Group) → length (targets_from all gs) ≡ length gs
as_many_excepted all [] = refl
as_many_excepted all (g ∷ gs) = ap suc (as_many_excepted all gs)

pub linked_few : (defs : List Def) (l : Linked) → IsLinked defs l → length l.excepted.items < ENTRIES_BOUND
linked_few defs l linked =
    omega (
      arith,
      linked.few,
      ap (λ (ts : List (Option ℕ)). length ts) linked.excepted,
      as_many_excepted (groups_at defs l.lists.items) (groups_at defs l.lists.items),
      as_many_groups defs l.lists.items,
    )

pub linked_low : (defs : List Def) (l : Linked) → IsLinked defs l → (g h : ℕ) → target_at l.excepted.items g ≡ Some h
    → h < length l.lists.items
linked_low defs l linked g h is =
    omega (
      arith,
      targets_low (groups_at defs l.lists.items) (groups_at defs l.lists.items) g h
          (subst (λ (ts : List (Option ℕ)). target_at ts g ≡ Some h) linked.excepted is),
      as_many_groups defs l.lists.items,
    )

pub forest_step : (defs : List Def) (made new : List ForestTarget) (t : ForestTarget) (l : Linked)
    (left rest start : List Linked) → left ≡ l ∷ rest → IsLinked defs l → t.target ≡ l.target
    → t.groups ≡ with_pairs (pairs_at 0 l.excepted.items) 0 l.lists.items → new ≡ made ++ t ∷ []
    → made ++ forest_at defs left ≡ forest_at defs start → new ++ forest_at defs rest ≡ forest_at defs start
forest_step defs made new t l left rest start is linked target groups more before =
    let gs : List Group = groups_at defs l.lists.items in
    let pairs : pairs_at 0 l.excepted.items ≡ excepts gs = ap (pairs_at 0) linked.excepted ∙ pairs_are gs 0 gs in
    let groups_is : t.groups ≡ forest_of_groups gs =
    groups ∙ ap (λ ps. with_pairs ps 0 l.lists.items) pairs
    ∙ forest_groups_are defs (excepts gs) 0 l.lists.items linked.placed in
    ap (λ (ts : List ForestTarget). ts ++ forest_at defs rest) more ∙ append_assoc made (t ∷ []) (forest_at defs rest)
    ∙ ap (λ (p : Target). made ++ record { target = p; groups = t.groups } ∷ forest_at defs rest) target
    ∙ ap (λ gs. made ++ record { target = l.target; groups = gs } ∷ forest_at defs rest) groups_is
    ∙ subst (λ (ls : List Linked). made ++ forest_at defs ls ≡ forest_at defs start) is before
