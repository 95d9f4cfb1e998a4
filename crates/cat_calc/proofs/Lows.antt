-- The groups of each target of a forest make no long chains, and are judged by their rule.
use Rattle.std.proofs.Common.{◌≡◌, ◌∙◌, ℕ, suc, ◌+◌, ◌<◌, ◌≤◌, nat_eq, Bool, true, false, ◌&&◌, ◌||◌, IsTrue}
use Rattle.std.proofs.Common.{List, [], ◌∷◌, length, Option, Some, None, inl, inr, refl, sym, ap, subst, arith}
use Rattle.std.proofs.Common.{true≢false}
use Rattle.std.proofs.Common.{if◌then◌else◌}
use Rattle.std.proofs.Math.Logic.{⊎_elim}
use Rattle.std.proofs.lemmas.Bool.Decides.{nat_tests}
use Rattle.cat_pos.specs.declared.limits.TheConstants.{ENTRIES_BOUND}
use Rattle.cat_value.specs.declared.outcome.Target.{Target}
use Rattle.cat_scope.specs.declared.defs.Def.{Def}
use Rattle.cat_scope.specs.declared.forest.ForestTarget.{ForestTarget}
use Rattle.cat_scope.specs.Names.{AllHave, IsOneOf, has_none}
use Rattle.cat_scope.specs.Groups.{Numbered, Key, Group, key_of, is_among, group_at, groups_from, groups_of, excepting}
use Rattle.cat_scope.specs.Groups.{exceptions_from, exceptions_of}
use Rattle.cat_scope.specs.Targets.{same_inner, same_target, defs_from}
use Rattle.cat_scope.specs.Chains.{HasNoCycle, are_within, longest_chain}
use Rattle.cat_scope.specs.Forests.{above, IsLow, is_low, are_low, forest_groups, forest_of_groups, forest_of}
use Rattle.cat_sound.specs.Grouped.{AreJudgedByRule}
use Rattle.cat_sound.proofs.Exported.{are_low_says, judging_rule}
use Rattle.cat_sound.proofs.Exported.{within_below}
use Rattle.cat_calc.specs.inside.Numbered.{groups_in}
use Rattle.cat_calc.specs.inside.Terms.{HasLowGroups}
use Rattle.cat_calc.specs.inside.Items.{target_at}
use Rattle.cat_calc.specs.inside.Tabled.{is_at, is_any_at, IsForestOf, AreTargetsOf}
use Rattle.cat_calc.proofs.Chains.{as_many_groups}
use Rattle.cat_calc.proofs.Tables.{groups_same}

both : (a b : Bool) → (a && b) ≡ true → (a ≡ true) × (b ≡ true)
both true true is = (refl, refl)
both true false is = absurd (true≢false (sym is))
both false b is = absurd (true≢false (sym is))

-- ---- chains

above_is : (pairs : List (ℕ × ℕ)) (n : ℕ) (gs : List Group)
    → above (forest_groups pairs n gs) ≡ exceptions_from pairs n gs
above_is pairs n [] = refl
above_is pairs n (g ∷ gs) = ap (λ (rest : List (List ℕ)). excepting pairs n ∷ rest) (above_is pairs (n + 1) gs)

-- the entry of a target
abbrev pub entry_of : List Def → Target → ForestTarget
entry_of defs target = record { target = target; groups = forest_of_groups (groups_of (defs_from target 0 defs)) }

low_groups : (defs : List Def) (target : Target) → is_low (entry_of defs target) ≡ true
    → HasLowGroups (groups_in defs target)
low_groups defs target low g within =
    let groups = groups_in defs target in
    within_below (exceptions_of groups) longest_chain (length groups) g
    (subst (λ (deps : List (List ℕ)). are_within deps longest_chain (length groups) ≡ true) (above_is _ 0 groups)
    (subst (λ (n : ℕ). are_within (above (forest_of_groups groups)) longest_chain n ≡ true) (as_many_groups groups)
    low)) within

no_cycle : (defs : List Def) (target : Target) → IsLow (entry_of defs target)
    → HasNoCycle (exceptions_of (groups_in defs target))
no_cycle defs target low =
    subst (λ (deps : List (List ℕ)). HasNoCycle deps) (above_is _ 0 (groups_in defs target)) low.0

low_each : (targets : List ForestTarget) → are_low targets ≡ true → AllHave (λ t. is_low t ≡ true) targets
unfolding are_low
low_each [] low = tt
low_each (target ∷ targets) low =
    let parts = both (is_low target) (are_low targets) low in (parts.0, low_each targets parts.1)

-- what holds of each entry of a forest
in_forest : (P : ForestTarget → Type 0) (defs : List Def) (targets : List Target) (x : Target)
    → AllHave P (forest_of defs targets) → IsOneOf x targets → P (entry_of defs x)
in_forest P defs [] x all among = elim among [ ]
in_forest P defs (target ∷ targets) x all among = ⊎_elim
    (λ same. subst (λ (t : Target). P (entry_of defs t)) (sym same) all.0)
    (λ more. in_forest P defs targets x all.1 more) among

-- ---- what is known of the groups of a target

pub record IsSteady (groups : List Group) : Type 0 where
  pub low : HasLowGroups groups
  pub by_rule : (target : Target) → AreJudgedByRule target groups

steady_none : IsSteady []
steady_none = record {
  low = λ g within. absurd (omega (arith, within));
  by_rule = λ target own g within. absurd (omega (arith, within));
}

steady_listed : (defs : List Def) (targets : List Target) (x : Target) → IsTrue (are_low (forest_of defs targets))
    → IsOneOf x targets → IsSteady (groups_in defs x)
steady_listed defs targets x low among =
    let none = no_cycle defs x (in_forest IsLow defs targets x ((are_low_says (forest_of defs targets)).0 low) among) in
    record {
      low = low_groups defs x (in_forest (λ t. is_low t ≡ true) defs targets x
          (low_each (forest_of defs targets) low) among);
      by_rule = λ target own g within. judging_rule target (groups_in defs x) own g none within;
    }

none_there : (ds : List Numbered) → has_none ds ≡ true → ds ≡ []
none_there [] none = refl
none_there (d ∷ ds) none = absurd (true≢false (sym none))

pub no_groups : (defs : List Def) (target : Target) → has_none (defs_from target 0 defs) ≡ true
    → groups_in defs target ≡ []
no_groups defs target none = ap groups_of (none_there (defs_from target 0 defs) none)

pub steady_undefined : (defs : List Def) (target : Target) → has_none (defs_from target 0 defs) ≡ true
    → IsSteady (groups_in defs target)
steady_undefined defs target none = subst (λ gs. IsSteady gs) (sym (no_groups defs target none)) steady_none

-- ---- few groups

few_groups : (all : List Numbered) (seen : List Key) (ds : List Numbered)
    → length (groups_from all seen ds) ≤ length ds
few_groups all seen [] = omega arith
few_groups all seen (d ∷ ds) =
    by (is_among (key_of d) seen) (few_groups all seen ds) (few_groups all (key_of d ∷ seen) ds)
  where
    by : (b : Bool) → length (groups_from all seen ds) ≤ length ds
        → length (groups_from all (key_of d ∷ seen) ds) ≤ length ds
        → length (if b then groups_from all seen ds else group_at all d ∷ groups_from all (key_of d ∷ seen) ds)
        ≤ suc (length ds)
    by true old new = omega (arith, old)
    by false old new = omega (arith, new)

few_defs : (target : Target) (n : ℕ) (defs : List Def) → length (defs_from target n defs) ≤ length defs
few_defs target n [] = omega arith
few_defs target n (d ∷ defs) = by (same_target d.target target) (few_defs target (n + 1) defs)
  where
    by : (b : Bool) → length (defs_from target (n + 1) defs) ≤ length defs
        → length (if b then (n, d) ∷ defs_from target (n + 1) defs else defs_from target (n + 1) defs)
        ≤ suc (length defs)
    by true rest = omega (arith, rest)
    by false rest = omega (arith, rest)

few_of : (bound : ℕ) (defs : List Def) (target : Target) → length defs < bound
    → length (forest_of_groups (groups_in defs target)) < bound
few_of bound defs target few =
    omega (
      arith,
      as_many_groups (groups_in defs target),
      few_defs target 0 defs,
      few_groups (defs_from target 0 defs) [] (defs_from target 0 defs),
      few,
    )

-- ---- the targets of a forest

each_forest : (defs : List Def) (targets : List Target) → length defs < ENTRIES_BOUND
    → AllHave (λ t. is_low t ≡ true) (forest_of defs targets) → AllHave (IsForestOf defs) (forest_of defs targets)
each_forest defs [] few low = tt
each_forest defs (target ∷ targets) few low = (
  record {
    few = few_of ENTRIES_BOUND defs target few;
    groups = refl;
    low = low_groups defs target low.0;
  },
  each_forest defs targets few low.1,
)

number_same : (n : ℕ) → nat_eq n n ≡ true
number_same n = grind (arith, nat_tests)

inner_same : (o : Option ℕ) → same_inner o o ≡ true
inner_same None = refl
inner_same (Some n) = number_same n

target_same : (item : ℕ) (inner : Option ℕ) → (nat_eq item item && same_inner inner inner) ≡ true
target_same item inner =
    ap (λ b. b && same_inner inner inner) (number_same item) ∙ inner_same inner

any_of : (defs : List Def) (targets : List Target) (x : Target) → IsOneOf x targets
    → is_any_at (forest_of defs targets) x.item x.inner ≡ true
any_of defs [] x among = elim among [ ]
any_of defs (target ∷ targets) x among = ⊎_elim
    (λ same. here (is_at (entry_of defs target) x.item x.inner)
    (subst (λ (t : Target). is_at (entry_of defs t) x.item x.inner ≡ true) same (target_same x.item x.inner)))
    (λ more. further (is_at (entry_of defs target) x.item x.inner) (any_of defs targets x more)) among
  where
    here : (b : Bool) → b ≡ true → (b || is_any_at (forest_of defs targets) x.item x.inner) ≡ true
    here true is = refl
    here false is = absurd (true≢false (sym is))

    further : (b : Bool) → is_any_at (forest_of defs targets) x.item x.inner ≡ true
        → (b || is_any_at (forest_of defs targets) x.item x.inner) ≡ true
    further true is = refl
    further false is = is

-- what is known of an item or inner item: it is listed, or no definition is of it
abbrev pub IsListed : List Def → List Target → ℕ → Option ℕ → Type 0
IsListed defs targets item inner = (scope : ℕ) × IsOneOf (record { scope = scope; item = item; inner = inner }) targets

pub not_listed : (defs : List Def) (targets : List Target) (item : ℕ) (inner : Option ℕ)
    → IsListed defs targets item inner → is_any_at (forest_of defs targets) item inner ≡ false → ⊥
not_listed defs targets item inner listed none =
    true≢false (sym (any_of defs targets (record { scope = listed.0; item = item; inner = inner }) listed.1) ∙ none)

pub are_targets : (defs : List Def) (targets : List Target) (forest : List ForestTarget) → length defs < ENTRIES_BOUND
    → IsTrue (are_low forest) → forest ≡ forest_of defs targets
    → ((item : ℕ) (inner : Option ℕ) → (IsListed defs targets item inner → ⊥)
    → has_none (defs_from (target_at item inner) 0 defs) ≡ true)
    → AreTargetsOf defs forest
are_targets defs targets forest few low is others = subst (λ (ts : List ForestTarget). AreTargetsOf defs ts) (sym is)
    (record {
      each = each_forest defs targets few (low_each (forest_of defs targets)
          (subst (λ (ts : List ForestTarget). are_low ts ≡ true) is low));
      others = λ item inner none. no_groups defs (target_at item inner)
          (others item inner (λ listed. not_listed defs targets item inner listed none));
    })

-- one of the targets is of that item and inner item
record IsAnyOf (defs : List Def) (targets : List Target) (item : ℕ) (inner : Option ℕ) : Type 0 where
  target : Target
  among : IsOneOf target targets
  at : is_at (entry_of defs target) item inner ≡ true

any_there : (defs : List Def) (targets : List Target) (item : ℕ) (inner : Option ℕ)
    → is_any_at (forest_of defs targets) item inner ≡ true → IsAnyOf defs targets item inner
any_there defs [] item inner some = absurd (true≢false (sym some))
any_there defs (target ∷ targets) item inner some =
    by (is_at (entry_of defs target) item inner) refl some (any_there defs targets item inner)
  where
    by : (b : Bool) → is_at (entry_of defs target) item inner ≡ b
        → (b || is_any_at (forest_of defs targets) item inner) ≡ true
        → (is_any_at (forest_of defs targets) item inner ≡ true → IsAnyOf defs targets item inner)
        → IsAnyOf defs (target ∷ targets) item inner
    by true at h rest = record { target = target; among = inl refl; at = at }
    by false at h rest =
        let more = rest h in record { target = more.target; among = inr more.among; at = more.at }

-- the groups of each item and inner item
pub steady_at : (defs : List Def) (targets : List Target) (forest : List ForestTarget) → IsTrue (are_low forest)
    → forest ≡ forest_of defs targets
    → ((item : ℕ) (inner : Option ℕ) → (IsListed defs targets item inner → ⊥)
    → has_none (defs_from (target_at item inner) 0 defs) ≡ true)
    → (item : ℕ) (inner : Option ℕ) → IsSteady (groups_in defs (target_at item inner))
steady_at defs targets forest low is others item inner =
    by (is_any_at (forest_of defs targets) item inner) refl
  where
    by : (b : Bool) → is_any_at (forest_of defs targets) item inner ≡ b
        → IsSteady (groups_in defs (target_at item inner))
    by false none = steady_undefined defs (target_at item inner)
        (others item inner (λ listed. not_listed defs targets item inner listed none))
    by true some =
        let found = any_there defs targets item inner some in
        subst (λ gs. IsSteady gs) (groups_same defs (entry_of defs found.target) item inner found.at)
        (steady_listed defs targets found.target (subst (λ (ts : List ForestTarget). are_low ts ≡ true) is low)
        found.among)
