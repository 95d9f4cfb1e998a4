-- From the targets of a scope to its forest.
use Rattle.std.proofs.Common.{◌≡◌, ◌∙◌, ℕ, ◌+◌, List, [], ◌∷◌, ◌++◌, Option, Some, None}
use Rattle.std.proofs.Common.{inl, refl, sym, ap, subst, arith, rules}
use Rattle.std.proofs.Math.Logic.{⊎_elim}
use Rattle.std.proofs.lemmas.List.{append_assoc}
use Rattle.cat_pos.specs.declared.pos.Pos.{Pos}
use Rattle.cat_value.specs.declared.outcome.Target.{Target}
use Rattle.cat_scope.specs.declared.defs.Def.{Def}
use Rattle.cat_scope.specs.Names.{AllHave, IsOneOf}
use Rattle.cat_scope.specs.Groups.{Group, groups_of}
use Rattle.cat_scope.specs.Targets.{defs_from}
use Rattle.cat_scope.specs.Forests.{forest_of, forest_of_groups}
use Rattle.cat_scope.specs.Chains.{HasNoCycle, HasShortChains}
use Rattle.cat_except.specs.declared.refusal.ExceptRefusal.{ExceptRefusal}
use Rattle.cat_except.specs.declared.refusal.ExceptRefusal.TheVariants as refusal
use Rattle.cat_except.specs.declared.groups.Groups.{Groups}
use Rattle.cat_except.specs.declared.linked.Linked.{Linked}
use Rattle.cat_except.specs.Faults.{groups_of_each, unknown_labels, split_labels, ambiguous_exceptions}
use Rattle.cat_except.specs.Excepted.{excepted_of, StandsPastLimit}
use Rattle.cat_except.specs.Causes.{AreResolved, HaveNoCycle, MakeForest, StandsIn, HasCause}
use Rattle.cat_except.specs.inside.Grouping.{groups_at, AreGroups}
use Rattle.cat_except.specs.inside.Linking.{lists_of}
use Rattle.cat_except.specs.inside.Finding.{first_of, groups_at_each, AreGroupsOfEach}
use Rattle.cat_except.specs.inside.Linked.{IsLinked, linked_groups, linked_targets, group_targets, forest_at, AreShort}
use Rattle.cat_except.specs.inside.Linked.{IsLimitIn}
use Rattle.cat_except.proofs.Linking.{lists_excepted}
use Rattle.cat_except.proofs.Grouped.{all_push}

-- the first position is one, and where there is none there are none
pub first_is_one : (positions : List Pos) (p : Pos) → first_of positions ≡ Some p → IsOneOf p positions
first_is_one [] p is = absurd (search (rules, is))
first_is_one (q ∷ positions) p is = inl (sym (ap (λ (o : Option Pos). or_other o) is)) where
  or_other : Option Pos → Pos
  or_other None = q
  or_other (Some r) = r

pub none_at_all : (positions : List Pos) → first_of positions ≡ None → positions ≡ []
none_at_all [] is = refl
none_at_all (q ∷ positions) is = absurd (search (rules, is))

-- the groups of one target more
each_targets_push : (ts : List Groups) (t : Groups) → group_targets (ts ++ t ∷ []) ≡ group_targets ts ++ t.target ∷ []
each_targets_push [] t = refl
each_targets_push (u ∷ ts) t = ap (λ ps. u.target ∷ ps) (each_targets_push ts t)

each_groups_push : (defs : List Def) (ts : List Groups) (t : Groups)
    → groups_at_each defs (ts ++ t ∷ []) ≡ groups_at_each defs ts ++ groups_at defs t.lists.items ∷ []
each_groups_push defs [] t = refl
each_groups_push defs (u ∷ ts) t = ap (λ gs. groups_at defs u.lists.items ∷ gs) (each_groups_push defs ts t)

pub targets_more : (made new : List Groups) (t : Groups) (target : Target) (left rest all : List Target)
    → left ≡ target ∷ rest → t.target ≡ target → new ≡ made ++ t ∷ [] → group_targets made ++ left ≡ all
    → group_targets new ++ rest ≡ all
targets_more made new t target left rest all is at more before =
    ap (λ (ts : List Groups). group_targets ts ++ rest) more ∙ ap (λ ps. ps ++ rest) (each_targets_push made t)
    ∙ append_assoc (group_targets made) (t.target ∷ []) rest ∙ ap (λ (p : Target). group_targets made ++ p ∷ rest) at
    ∙ subst (λ (ps : List Target). group_targets made ++ ps ≡ all) is before

pub groups_more : (defs : List Def) (made new : List Groups) (t : Groups) (target : Target) (left rest : List Target)
    (all : List (List Group)) → left ≡ target ∷ rest → groups_at defs t.lists.items ≡ groups_of
    (defs_from target 0 defs)
    → new ≡ made ++ t ∷ [] → groups_at_each defs made ++ groups_of_each defs left ≡ all
    → groups_at_each defs new ++ groups_of_each defs rest ≡ all
groups_more defs made new t target left rest all is at more before =
    ap (λ (ts : List Groups). groups_at_each defs ts ++ groups_of_each defs rest) more
    ∙ ap (λ gs. gs ++ groups_of_each defs rest) (each_groups_push defs made t)
    ∙ append_assoc (groups_at_each defs made) ((groups_at defs t.lists.items) ∷ []) (groups_of_each defs rest)
    ∙ ap (λ (gs : List Group). groups_at_each defs made ++ gs ∷ groups_of_each defs rest) at
    ∙ subst (λ (ps : List Target). groups_at_each defs made ++ groups_of_each defs ps ≡ all) is before

pub known_more : (defs : List Def) (made new : List Groups) (t : Groups) → new ≡ made ++ t ∷ []
    → AreGroupsOfEach defs made → AreGroups defs t → AreGroupsOfEach defs new
known_more defs made new t more before here =
    subst (λ (ts : List Groups). AreGroupsOfEach defs ts) (sym more) (all_push (AreGroups defs) made t before here)

pub limit_cause : (targets : List (List Group)) (e : ExceptRefusal) → AreResolved targets → HaveNoCycle targets
    → IsLimitIn (StandsIn StandsPastLimit targets) e → HasCause targets e
limit_cause targets (refusal.TooMany p) resolved acyclic stands = (stands, resolved, acyclic)
limit_cause targets refusal.Memory resolved acyclic stands = tt
limit_cause targets (refusal.LabelUnknown p) resolved acyclic stands = elim stands [ ]
limit_cause targets (refusal.LabelSplit p) resolved acyclic stands = elim stands [ ]
limit_cause targets (refusal.ExceptionAmbiguous p) resolved acyclic stands = elim stands [ ]
limit_cause targets (refusal.ExceptionCycle p) resolved acyclic stands = elim stands [ ]

-- targets in order have no cycle
pub linked_acyclic : (defs : List Def) (linked : List Linked) → AllHave (IsLinked defs) linked
    → HaveNoCycle (linked_groups defs linked)
linked_acyclic defs [] all = tt
linked_acyclic defs (l ∷ ls) all =
    let gs : List Group = groups_at defs l.lists.items in (
      subst (λ (ds : List (List ℕ)). HasNoCycle ds) (ap lists_of all.0.excepted ∙ lists_excepted gs gs) all.0.acyclic,
      linked_acyclic defs ls all.1,
    )

pub linked_short : (defs : List Def) (linked : List Linked) → AllHave (IsLinked defs) linked → AreShort linked
    → AllHave (λ (groups : List Group). HasShortChains (excepted_of groups)) (linked_groups defs linked)
linked_short defs [] all short = tt
linked_short defs (l ∷ ls) all short =
    let gs : List Group = groups_at defs l.lists.items in (
      subst (λ (ds : List (List ℕ)). HasShortChains ds) (ap lists_of all.0.excepted ∙ lists_excepted gs gs) short.0,
      linked_short defs ls all.1 short.1,
    )

pub make_forest : (defs : List Def) (linked : List Linked) (targets : List (List Group))
    → linked_groups defs linked ≡ targets → AllHave (IsLinked defs) linked → AreShort linked → AreResolved targets
    → MakeForest targets
make_forest defs linked targets is all short resolved = record {
  resolved = resolved;
  acyclic = subst (λ (ts : List (List Group)). HaveNoCycle ts) is (linked_acyclic defs linked all);
  short = subst (λ (ts : List (List Group)). AllHave (λ (groups : List Group). HasShortChains (excepted_of groups)) ts)
      is
      (linked_short defs linked all short);
}

-- the forest of the targets is that of the labels
same_heads : {A : Type 0} (x y : A) (xs ys : List A) → x ∷ xs ≡ y ∷ ys → (x ≡ y) × (xs ≡ ys)
same_heads {A = A} x y xs ys is = (ap head is, ap tail is) where
  head : List A → A
  head [] = x
  head (z ∷ zs) = z

  tail : List A → List A
  tail [] = []
  tail (z ∷ zs) = zs

pub forest_is : (defs : List Def) (linked : List Linked) (targets : List Target) → linked_targets linked ≡ targets
    → linked_groups defs linked ≡ groups_of_each defs targets → forest_at defs linked ≡ forest_of defs targets
forest_is defs [] [] at is = refl
forest_is defs [] (target ∷ targets) at is = absurd (search (rules, at))
forest_is defs (l ∷ ls) [] at is = absurd (search (rules, at))
forest_is defs (l ∷ ls) (target ∷ targets) at is =
    let here : (l.target ≡ target) × (linked_targets ls ≡ targets) =
    same_heads l.target target (linked_targets ls) targets at in
    let groups : (groups_at defs l.lists.items ≡ groups_of (defs_from target 0 defs))
    × (linked_groups defs ls ≡ groups_of_each defs targets) =
    same_heads (groups_at defs l.lists.items) (groups_of (defs_from target 0 defs)) (linked_groups defs ls)
    (groups_of_each defs targets) is in
    ap (λ (p : Target). record { target = p; groups = forest_of_groups (groups_at defs l.lists.items) } ∷ forest_at defs
    ls)
    here.0
    ∙ ap (λ (gs : List Group). record { target = target; groups = forest_of_groups gs } ∷ forest_at defs ls) groups.0
    ∙ ap (λ ts. record { target = target; groups = forest_of_groups (groups_of (defs_from target 0 defs)) } ∷ ts)
    (forest_is defs ls targets here.1 groups.1)

-- what has a cause makes no forest
none_of_none : {A : Type 0} (x : A) (xs : List A) → IsOneOf x xs → xs ≡ [] → ⊥
none_of_none x [] among is = among
none_of_none x (y ∷ ys) among is = absurd (search (rules, is))

one_of : {A : Type 0} (P : A → Type 0) (x : A) (xs : List A) → IsOneOf x xs → AllHave P xs → P x
one_of P x [] among all = elim among [ ]
one_of P x (y ∷ xs) among all =
    ⊎_elim (λ same. subst P (sym same) all.0) (λ more. one_of P x xs more all.1) among

pub no_forest : (targets : List (List Group)) (e : ExceptRefusal) → ¬ (e ≡ refusal.Memory) → HasCause targets e
    → ¬ MakeForest targets
no_forest targets (refusal.LabelUnknown p) other cause forest =
    none_of_none p (unknown_labels targets) cause forest.resolved.known
no_forest targets (refusal.LabelSplit p) other cause forest =
    none_of_none p (split_labels targets) cause.0 forest.resolved.unsplit
no_forest targets (refusal.ExceptionAmbiguous p) other cause forest =
    none_of_none p (ambiguous_exceptions targets) cause.0 forest.resolved.rooted
no_forest targets (refusal.ExceptionCycle p) other cause forest =
    one_of (λ (groups : List Group). HasNoCycle (excepted_of groups)) cause.0.0 targets cause.0.1 forest.acyclic
    cause.0.2.0 cause.0.2.1
no_forest targets (refusal.TooMany p) other cause forest =
    let short : HasShortChains (excepted_of cause.0.0) =
    one_of (λ (groups : List Group). HasShortChains (excepted_of groups)) cause.0.0 targets cause.0.1 forest.short in
    omega (arith, short cause.0.2.0 cause.0.2.1, cause.0.2.2)
no_forest targets refusal.Memory other cause forest = other refl
