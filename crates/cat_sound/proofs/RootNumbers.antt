-- The definitions of a target stand at their numbers, and its roots are the groups whose first definitions are no
-- exceptions.
use Rattle.std.proofs.Common.{◌≡◌, ℕ, zero, suc, ◌+◌, Bool, true, false, List, [], ◌∷◌, Some, slice_get, refl, ap, ◌∙◌}
use Rattle.std.proofs.Common.{sym, arith, if◌then◌else◌, true≢false}
use Rattle.std.specs.Option.{is_some}
use Rattle.cat_value.specs.declared.outcome.Target.{Target}
use Rattle.cat_scope.specs.declared.defs.Def.{Def}
use Rattle.cat_scope.specs.Names.{AllHave}
use Rattle.cat_scope.specs.Groups.{Numbered, Group, groups_of, is_none, group_numbers, roots_of, excepts}
use Rattle.cat_scope.specs.Targets.{same_target, defs_from}
use Rattle.cat_scope.specs.Forests.{definition_numbers, forest_groups, forest_of_groups}
use Rattle.cat_sound.specs.Roots.{is_no_exception, is_first_root, root_numbers}
use Rattle.cat_sound.proofs.FormTypes.{same_some}
use Rattle.cat_sound.proofs.TargetTypes.{groups-all, all_more}
use Rattle.cat_sound.proofs.GroupLaws.{IsAsItsFirst, are_as_their_first}

-- a definition stands at its number
abbrev pub IsNumbered : List Def → Numbered → Type 0
IsNumbered defs d = slice_get defs d.0 ≡ Some d.1

abbrev IsFrom : ℕ → List Def → Numbered → Type 0
IsFrom n defs d = (k : ℕ) × (d.0 ≡ n + k) × (slice_get defs k ≡ Some d.1)

numbered_from : (target : Target) (n : ℕ) (defs : List Def) → AllHave (IsFrom n defs) (defs_from target n defs)
numbered_from target n [] = tt
numbered_from target n (e ∷ defs) = by (same_target e.target target)
    (all_more (IsFrom (n + 1) defs) (IsFrom n (e ∷ defs)) (defs_from target (n + 1) defs)
    (numbered_from target (n + 1) defs)
    (λ d from. (suc from.0, omega (arith, from.1), from.2)))
  where
    by : (b : Bool) → AllHave (IsFrom n (e ∷ defs)) (defs_from target (n + 1) defs)
        → AllHave (IsFrom n (e ∷ defs)) (if b then (n, e) ∷ defs_from target (n + 1) defs else defs_from target (n + 1)
        defs)
    by true rest = ((0, omega arith, refl), rest)
    by false rest = rest

numbered_in : (defs : List Def) (target : Target) → AllHave (IsNumbered defs) (defs_from target 0 defs)
numbered_in defs target = all_more (IsFrom 0 defs) (IsNumbered defs) (defs_from target 0 defs)
    (numbered_from target 0 defs)
    (λ d from. ap (slice_get defs) (omega (arith, from.1)) ∙ from.2)

pub numbered_groups : (defs : List Def) (target : Target)
    → AllHave (λ g. AllHave (IsNumbered defs) g.defs) (groups_of (defs_from target 0 defs))
numbered_groups defs target =
    groups-all (IsNumbered defs) (defs_from target 0 defs) [] (defs_from target 0 defs) (numbered_in defs target)

first_root : (defs : List Def) (g : Group) (ds : List Numbered) → g.defs ≡ ds → IsAsItsFirst g
    → AllHave (IsNumbered defs) ds → is_first_root defs (definition_numbers ds) ≡ is_none g.except
first_root defs g [] is first all = absurd (none_first is first.1) where
  none_first : {d : Numbered} → g.defs ≡ [] → slice_get g.defs 0 ≡ Some d → ⊥
  none_first is at = true≢false (sym (ap is_some at) ∙ ap (λ (ds : List Numbered). is_some (slice_get ds 0)) is)
first_root defs g (e ∷ es) is first all =
    ap is_no_exception all.0
    ∙ ap (λ (d : Numbered). is_none d.1.except)
    (same_some e first.0 (ap (λ (ds : List Numbered). slice_get ds 0) (sym is) ∙ first.1))
    ∙ ap is_none (sym first.2)

roots_same : (defs : List Def) (pairs : List (ℕ × ℕ)) (n : ℕ) (gs : List Group) → AllHave IsAsItsFirst gs
    → AllHave (λ g. AllHave (IsNumbered defs) g.defs) gs
    → root_numbers defs n (forest_groups pairs n gs) ≡ group_numbers (λ g. is_none g.except) n gs
roots_same defs pairs n [] firsts all = refl
roots_same defs pairs n (g ∷ gs) firsts all =
    ap (λ (b : Bool). if b then n ∷ root_numbers defs (n + 1) (forest_groups pairs (n + 1) gs)
    else root_numbers defs (n + 1) (forest_groups pairs (n + 1) gs))
    (first_root defs g g.defs refl firsts.0 all.0)
    ∙ ap (λ (rest : List ℕ). if is_none g.except then n ∷ rest else rest)
    (roots_same defs pairs (n + 1) gs firsts.1 all.1)

pub roots_are : (defs : List Def) (target : Target)
    → root_numbers defs 0 (forest_of_groups (groups_of (defs_from target 0 defs)))
    ≡ roots_of (groups_of (defs_from target 0 defs))
roots_are defs target = roots_same defs (excepts (groups_of (defs_from target 0 defs))) 0
    (groups_of (defs_from target 0 defs))
    (are_as_their_first (defs_from target 0 defs)) (numbered_groups defs target)
