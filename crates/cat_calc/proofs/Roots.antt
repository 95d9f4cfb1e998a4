-- Of the groups of a forest that are met on the way to its roots.
use Rattle.std.proofs.Common.{◌≡◌, ℕ, ◌<◌, ◌≤◌, List, ◌++◌, length, Some, slice_get, ap}
use Rattle.std.proofs.Common.{◌∙◌, sym, All, drop, get_or}
use Rattle.std.proofs.lemmas.List.{append-nil, drop_all}
use Rattle.std.proofs.lemmas.Option.{slice_get-get_or}
use Rattle.cat_value.specs.declared.outcome.Target.{Target}
use Rattle.cat_scope.specs.declared.defs.Def.{Def}
use Rattle.cat_scope.specs.declared.forest.ForestGroup.{ForestGroup}
use Rattle.cat_scope.specs.Forests.{forest_of_groups}
use Rattle.cat_sound.specs.Roots.{root_numbers}
use Rattle.cat_calc.specs.inside.Numbered.{groups_in}
use Rattle.cat_calc.proofs.Numbers.{known_at}

-- the definitions of a group that is met on the way
pub named_at : (defs : List Def) (target : Target) (forest items : List ForestGroup) (n : ℕ) (found : ForestGroup)
    → items ≡ forest → forest ≡ forest_of_groups (groups_in defs target) → n < length items
    → found ≡ get_or items n found
    → All (λ m. m < length defs) found.defs
named_at defs target forest items n found same stands within is =
    let at = slice_get-get_or items n found within ∙ ap Some (sym is) in
    (known_at defs target n found (ap (λ (gs : List ForestGroup). slice_get gs n) (sym (same ∙ stands)) ∙ at)).named

pub all_met : (defs : List Def) (forest : List ForestGroup) (n : ℕ) (made whole : List ℕ) → length forest ≤ n
    → made ++ root_numbers defs n (drop n forest) ≡ whole → made ≡ whole
all_met defs forest n made whole past is =
    sym (append-nil made) ∙ ap (λ (gs : List ForestGroup). made ++ root_numbers defs n gs)
    (sym (drop_all n forest past)) ∙ is
