-- The term of a target comes to what the target is judged as.
use Rattle.std.proofs.Common.{◌≡◌, ℕ, zero, suc, ◌<◌, true, List, [], ◌∷◌, length, map, Option, Some, None, slice_get}
use Rattle.std.proofs.Common.{inl, inr, refl, ap, ◌∙◌, sym, rules, arith, true≢false}
use Rattle.std.proofs.Common.{◌+◌, Bool, false, if◌then◌else◌}
use Rattle.std.proofs.Math.Logic.{⊎_elim}
use Rattle.std.specs.Option.{is_some}
use Rattle.cat_pos.specs.declared.pos.Pos.{Pos}
use Rattle.cat_value.specs.declared.value.Value.{Value}
use Rattle.cat_value.specs.declared.value.Value.TheViews as value
use Rattle.cat_value.specs.declared.outcome.Target.{Target}
use Rattle.cat_scope.specs.declared.expr.Expr.{Expr}
use Rattle.cat_scope.specs.Runs.{Run, gives, and_then, choose}
use Rattle.cat_scope.specs.Names.{IsOneOf}
use Rattle.cat_scope.specs.Groups.{Numbered, Group, excepts, excepting, exceptions_of, roots_of}
use Rattle.cat_scope.specs.Groups.{group_numbers, is_none}
use Rattle.cat_scope.specs.Chains.{is_within, longest_chain}
use Rattle.cat_scope.specs.Judging.{Judged, settle, or_else, judge}
use Rattle.cat_scope.specs.declared.defs.Def.{Def}
use Rattle.cat_scope.specs.Targets.{judge_def, condition_of, own_by, judge_groups, judge_target}
use Rattle.cat_sound.specs.Grouped.{AreJudgedByRule}
use Rattle.cat_sound.proofs.Exported.{leads_on, within_step, within_none}
use Rattle.cat_calc.specs.Reducing.{justified, reduced}
use Rattle.cat_calc.specs.declared.term.Justification.TheVariants as justification
use Rattle.cat_calc.specs.declared.term.DefaultTerm.{DefaultTerm}
use Rattle.cat_calc.specs.declared.term.DefaultTerm.TheVariants as leaf
use Rattle.cat_calc.proofs.Equations.{reduced_Consequence, reduced_Default}
use Rattle.cat_calc.proofs.ReducingLaws.{or_else_none}
use Rattle.cat_calc.specs.Desugared.{KeepsJudging}
use Rattle.cat_calc.specs.inside.Numbered.{groups_in}
use Rattle.cat_calc.specs.inside.Terms.{justification_of, definition_term, one_of, own_term, group_term, target_term}
use Rattle.cat_calc.specs.inside.Terms.{HasLowGroups}

-- two functions that agree on each of some things
same_each : {A B : Type 0} (f g : A → B) (xs : List A) → ((x : A) → IsOneOf x xs → f x ≡ g x) → map f xs ≡ map g xs
same_each f g [] same = refl
same_each f g (x ∷ xs) same =
    ap (λ y. y ∷ map f xs) (same x (inl refl))
    ∙ ap (λ ys. g x ∷ ys) (same_each f g xs (λ y among. same y (inr among)))

map_map : {A B C : Type 0} (f : B → C) (g : A → B) (xs : List A) → map f (map g xs) ≡ map (λ x. f (g x)) xs
map_map f g [] = refl
map_map f g (x ∷ xs) = ap (λ ys. f (g x) ∷ ys) (map_map f g xs)

pub there : {A : Type 0} (xs : List A) (n : ℕ) → n < length xs → slice_get xs n ≡ None → ⊥
there [] n within none = omega (arith, within)
there (x ∷ xs) zero within none = true≢false (ap is_some none)
there (x ∷ xs) (suc n) within none = there xs n (omega (arith, within)) none

-- a root is one of the groups
root_among : (passes : Group → Bool) (n : ℕ) (groups : List Group) (g : ℕ) → IsOneOf g (group_numbers passes n groups)
    → g < n + length groups
root_among passes n [] g among = elim among [ ]
root_among passes n (h ∷ hs) g among = here passes n h hs g (passes h) (root_among passes (n + 1) hs g) among where
  here : (passes : Group → Bool) (n : ℕ) (h : Group) (hs : List Group) (g : ℕ) (b : Bool)
      → (IsOneOf g (group_numbers passes (n + 1) hs) → g < n + 1 + length hs)
      → IsOneOf g (if b then n ∷ group_numbers passes (n + 1) hs else group_numbers passes (n + 1) hs)
      → g < n + length (h ∷ hs)
  here passes n h hs g true rest among =
      ⊎_elim (λ same. omega (arith, same)) (λ more. omega (arith, rest more)) among
  here passes n h hs g false rest among = omega (arith, rest among)

pub root_within : (groups : List Group) (g : ℕ) → IsOneOf g (roots_of groups) → g < length groups
root_within groups g among = omega (arith, root_among (λ h. is_none h.except) 0 groups g among)

module _ (meaning : Expr → Run Value) (target : Target) where
  -- what holds where one of some terms does is what they settle
  reduced_one_of : (terms : List DefaultTerm) → reduced meaning target (one_of terms)
      ≡ settle target (map (reduced meaning target) terms)
  reduced_one_of terms = reduced_Default meaning target terms justification.Never leaf.Empty
      ∙ or_else_none (settle target (map (reduced meaning target) terms))

  held_under : (c : Option Expr) (p : Pos) (held : Judged Value) → justified meaning (justification_of c) held
      ≡ and_then (condition_of meaning c) (λ t. choose t held (gives None))
  held_under None p held = search (rules, value.the_lemmas)
  held_under (Some e) p held = refl

  reduced_definition : (d : Numbered) → reduced meaning target (definition_term d) ≡ judge_def meaning d
  reduced_definition d =
      reduced_Default meaning target [] (justification_of d.1.condition) (leaf.Consequence d.0 d.1.pos d.1.consequence)
      ∙ ap (justified meaning (justification_of d.1.condition))
      (reduced_Consequence meaning target d.0 d.1.pos d.1.consequence)
      ∙ held_under d.1.condition d.1.pos _

  reduced_own : (group : Group) → reduced meaning target (own_term (Some group))
      ≡ own_by (judge_def meaning) target (Some group)
  reduced_own group = reduced_one_of (map definition_term group.defs)
      ∙ ap (settle target) (map_map (reduced meaning target) definition_term group.defs
      ∙ same_each (λ d. reduced meaning target (definition_term d)) (judge_def meaning) group.defs
      (λ d among. reduced_definition d))

  -- what a group's own definitions come to
  abbrev pub own : List Group → ℕ → Judged Value
  own groups g = own_by (judge_def meaning) target (slice_get groups g)

  reduced_own_at : (groups : List Group) (g : ℕ) (group : Option Group) → slice_get groups g ≡ group → g < length groups
      → reduced meaning target (own_term group) ≡ own_by (judge_def meaning) target group
  reduced_own_at groups g None is within = absurd (there groups g within is)
  reduced_own_at groups g (Some group) is within = reduced_own group

  module _ (groups : List Group) (by_rule : AreJudgedByRule target groups) where
    pub reduced_group : (room g : ℕ) → g < length groups → is_within (exceptions_of groups) room g ≡ true
        → reduced meaning target (group_term groups room g) ≡ judge target (excepts groups) (own groups)
        (length groups) g
    unfolding group_term
    reduced_group zero g within short = elim (within_none (exceptions_of groups) g short) [ ]
    reduced_group (suc room) g within short =
        reduced_Default meaning target (map (group_term groups room) (excepting (excepts groups) g))
        justification.Always
        (own_term (slice_get groups g))
        ∙ ap (λ above. or_else (settle target above) (reduced meaning target (own_term (slice_get groups g))))
        (map_map (reduced meaning target) (group_term groups room) (excepting (excepts groups) g)
        ∙ same_each (λ e. reduced meaning target (group_term groups room e))
        (judge target (excepts groups) (own groups) (length groups)) (excepting (excepts groups) g)
        (λ e among. let leads = leads_on groups g e within among in
        reduced_group room e leads.1 (within_step (exceptions_of groups) room g e short leads.0)))
        ∙ ap (or_else (settle target (map (judge target (excepts groups) (own groups) (length groups))
        (excepting (excepts groups) g)))) (reduced_own_at groups g (slice_get groups g) refl within)
        ∙ sym (by_rule (own groups) g within)

    -- the term of a target comes to what the target is judged as, where no chain of its groups is too long
    pub reduced_target : HasLowGroups groups
        → reduced meaning target (target_term groups) ≡ judge_groups meaning target groups
    reduced_target short = reduced_one_of (map (group_term groups longest_chain) (roots_of groups))
        ∙ ap (settle target) (map_map (reduced meaning target) (group_term groups longest_chain) (roots_of groups)
        ∙ same_each (λ g. reduced meaning target (group_term groups longest_chain g))
        (judge target (excepts groups) (own groups) (length groups)) (roots_of groups)
        (λ g among. let within = root_within groups g among in
        reduced_group longest_chain g within (short g within)))

pub keeps_judging : (defs : List Def) (target : Target) (found : DefaultTerm) → HasLowGroups (groups_in defs target)
    → found ≡ target_term (groups_in defs target) → KeepsJudging defs target found
unfolding judge_target
keeps_judging defs target found low is meaning by_rule =
    ap (reduced meaning target) is ∙ reduced_target meaning target (groups_in defs target) by_rule low
