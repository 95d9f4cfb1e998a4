-- The groups that except one begin shorter chains.
use Rattle.std.proofs.Common.{◌≡◌, ℕ, zero, suc, ◌+◌, ◌<◌, true, List, [], ◌∷◌, length, map, All, inl, inr, arith, ap}
use Rattle.std.proofs.Common.{sym, subst, refl, ◌∙◌, ◌-◌, Some, slice_get}
use Rattle.cat_scope.specs.Names.{AllHave, IsOneOf}
use Rattle.cat_scope.specs.Groups.{Group, excepts, excepting, exceptions_of, roots_of}
use Rattle.cat_scope.specs.Chains.{is_within, longest_chain}
use Rattle.cat_scope.specs.Forests.{forest_groups, forest_of_groups}
use Rattle.cat_sound.proofs.Exported.{leads_on, within_step, within_none}
use Rattle.cat_value.specs.declared.outcome.Target.{Target}
use Rattle.cat_scope.specs.declared.defs.Def.{Def}
use Rattle.cat_scope.specs.declared.forest.ForestGroup.{ForestGroup}
use Rattle.cat_calc.specs.declared.term.Justification.TheVariants as justification
use Rattle.cat_calc.specs.declared.term.DefaultTerm.{DefaultTerm}
use Rattle.cat_calc.specs.declared.term.DefaultTerm.TheViews as term
use Rattle.cat_calc.specs.inside.Numbered.{groups_in}
use Rattle.cat_calc.specs.inside.Terms.{own_term, group_term, HasLowGroups}
use Rattle.cat_calc.proofs.TargetTerms.{root_within}
use Rattle.cat_calc.proofs.Numbers.{all_as, IsKnownAt, known_at}

groups_counted : (pairs : List (ℕ × ℕ)) (n : ℕ) (groups : List Group)
    → length (forest_groups pairs n groups) ≡ length groups
groups_counted pairs n [] = refl
groups_counted pairs n (g ∷ gs) = ap suc (groups_counted pairs (n + 1) gs)

-- a forest has as many groups as the target
pub as_many_groups : (groups : List Group) → length (forest_of_groups groups) ≡ length groups
as_many_groups groups = groups_counted (excepts groups) 0 groups

pub has_room : (groups : List Group) (room g : ℕ) → is_within (exceptions_of groups) room g ≡ true → 0 < room
has_room groups zero g short = elim (within_none (exceptions_of groups) g short) [ ]
has_room groups (suc room) g short = omega arith

each_among : {A : Type 0} (P : A → Type 0) (xs : List A) → ((x : A) → IsOneOf x xs → P x) → AllHave P xs
each_among P [] has = tt
each_among P (x ∷ xs) has = (has x (inl refl), each_among P xs (λ y among. has y (inr among)))

excepting_below : (groups : List Group) (g : ℕ) → g < length groups
    → All (λ e. e < length (forest_of_groups groups)) (excepting (excepts groups) g)
excepting_below groups g within = all_as (λ e. e < length (forest_of_groups groups)) (excepting (excepts groups) g)
    (each_among (λ e. e < length (forest_of_groups groups)) (excepting (excepts groups) g)
    (λ e among. subst (λ n. e < n) (sym (as_many_groups groups)) (leads_on groups g e within among).1))

excepting_short : (groups : List Group) (room g : ℕ) → g < length groups
    → is_within (exceptions_of groups) (suc room) g ≡ true
    → All (λ e. is_within (exceptions_of groups) room e ≡ true) (excepting (excepts groups) g)
excepting_short groups room g within short = all_as (λ e. is_within (exceptions_of groups) room e ≡ true)
    (excepting (excepts groups) g) (each_among (λ e. is_within (exceptions_of groups) room e ≡ true)
    (excepting (excepts groups) g)
    (λ e among. within_step (exceptions_of groups) room g e short (leads_on groups g e within among).0))

less : (room : ℕ) → suc room - 1 ≡ room
less room = omega arith

one_less : (groups : List Group) (room g : ℕ) → g < length groups → is_within (exceptions_of groups) room g ≡ true
    → All (λ e. is_within (exceptions_of groups) (room - 1) e ≡ true) (excepting (excepts groups) g)
one_less groups zero g within short = elim (within_none (exceptions_of groups) g short) [ ]
one_less groups (suc room) g within short =
    subst (λ (r : ℕ). All (λ e. is_within (exceptions_of groups) r e ≡ true) (excepting (excepts groups) g))
    (sym (less room)) (excepting_short groups room g within short)

-- what is known of a group of the forest of a target's definitions, which begins no chain of more than `room` groups
pub record IsReached (defs : List Def) (groups : List Group) (forest : List ForestGroup) (room number : ℕ)
    (found : ForestGroup) : Type 0 where
  pub known : IsKnownAt defs groups number found
  pub there : All (λ e. e < length forest) found.excepted_by
  pub short : All (λ e. is_within (exceptions_of groups) (room - 1) e ≡ true) found.excepted_by

pub reached : (defs : List Def) (target : Target) (forest : List ForestGroup) (room number : ℕ) (found : ForestGroup)
    → forest ≡ forest_of_groups (groups_in defs target) → number < length forest
    → is_within (exceptions_of (groups_in defs target)) room number ≡ true → slice_get forest number ≡ Some found
    → IsReached defs (groups_in defs target) forest room number found
reached defs target forest room number found stands within short is =
    let groups = groups_in defs target in
    let known = known_at defs target number found (ap (λ gs. slice_get gs number) (sym stands) ∙ is) in
    let below = subst (λ n. number < n) (ap length stands ∙ as_many_groups groups) within in
    record {
      known = known;
      there = subst (All (λ e. e < length forest)) (sym known.above)
          (subst (λ (gs : List ForestGroup). All (λ e. e < length gs) (excepting (excepts groups) number)) (sym stands)
          (excepting_below groups number below));
      short = subst (All (λ e. is_within (exceptions_of groups) (room - 1) e ≡ true)) (sym known.above)
          (one_less groups room number below short);
    }

pub group_term_is : (groups : List Group) (room number : ℕ) (exceptions : List DefaultTerm) (own : DefaultTerm)
    → is_within (exceptions_of groups) room number ≡ true
    → exceptions ≡ map (group_term groups (room - 1)) (excepting (excepts groups) number)
    → own ≡ own_term (slice_get groups number)
    → term.Default exceptions justification.Always own ≡ group_term groups room number
unfolding group_term
group_term_is groups zero number exceptions own short above is =
    elim (within_none (exceptions_of groups) number short) [ ]
group_term_is groups (suc room) number exceptions own short above is =
    ap (λ es. term.Default es justification.Always own)
    (above ∙ ap (λ (r : ℕ). map (group_term groups r) (excepting (excepts groups) number)) (less room))
    ∙ ap (term.Default (map (group_term groups room) (excepting (excepts groups) number)) justification.Always) is

pub roots_there : (groups : List Group) (forest : List ForestGroup) → forest ≡ forest_of_groups groups
    → All (λ n. n < length forest) (roots_of groups)
roots_there groups forest stands = all_as (λ n. n < length forest) (roots_of groups)
    (each_among (λ n. n < length forest) (roots_of groups)
    (λ n among. subst (λ m. n < m) (sym (ap length stands ∙ as_many_groups groups)) (root_within groups n among)))

pub roots_short : (groups : List Group) → HasLowGroups groups
    → All (λ n. is_within (exceptions_of groups) longest_chain n ≡ true) (roots_of groups)
roots_short groups low = all_as (λ n. is_within (exceptions_of groups) longest_chain n ≡ true) (roots_of groups)
    (each_among (λ n. is_within (exceptions_of groups) longest_chain n ≡ true) (roots_of groups)
    (λ n among. low n (root_within groups n among)))
