-- The first position of a fault, one definition, one group and one target further.
use Rattle.std.proofs.Common.{◌≡◌, ◌∙◌, ℕ, ◌<◌, ◌+◌, List, [], ◌∷◌, ◌++◌, length, Option, Some, None, slice_get, drop}
use Rattle.std.proofs.Common.{get_or}
use Rattle.std.proofs.Common.{refl, sym, ap, subst}
use Rattle.std.proofs.lemmas.List.{drop_more}
use Rattle.cat_pos.specs.declared.pos.Pos.{Pos}
use Rattle.cat_scope.specs.declared.defs.Def.{Def}
use Rattle.cat_scope.specs.Groups.{Numbered, Group}
use Rattle.cat_except.specs.declared.groups.Groups.{Groups}
use Rattle.cat_except.specs.Faults.{Kind, in_front, in_defs, in_groups, in_targets}
use Rattle.cat_except.specs.inside.Grouping.{numbered, defs_at, group_by, groups_at}
use Rattle.cat_except.specs.inside.Finding.{first_of, groups_at_each}

-- a position, or else the first of others
abbrev or_first : Option Pos → List Pos → Option Pos
or_first None positions = first_of positions
or_first (Some p) positions = Some p

first_append : (these those : List Pos) → first_of (these ++ those) ≡ or_first (first_of these) those
first_append [] those = refl
first_append (p ∷ these) those = refl

-- the position that is looked for where one is there, and where none is
pub here : (o : Option Pos) (p : Pos) (rest : List Pos) (all now : Option Pos) → now ≡ or_first o rest → now ≡ all
    → o ≡ Some p → Some p ≡ all
here o p rest all now step so is = sym (ap (λ (q : Option Pos). or_first q rest) is) ∙ sym step ∙ so

pub behind : (o : Option Pos) (rest : List Pos) (all now : Option Pos) → now ≡ or_first o rest → now ≡ all → o ≡ None
    → first_of rest ≡ all
behind o rest all now step so is = sym (ap (λ (q : Option Pos). or_first q rest) is) ∙ sym step ∙ so

first_front : (o : Option Pos) (rest : List Pos) → first_of (in_front o rest) ≡ or_first o rest
first_front None rest = refl
first_front (Some p) rest = refl

pub in_defs_step : (kind : Kind) (all : List Group) (g : Group) (defs : List Def) (list : List ℕ) (i n : ℕ) (d : Def)
    → i < length list → get_or list i n ≡ n → slice_get defs n ≡ Some d
    → first_of (in_defs kind all g (defs_at defs (drop i list)))
    ≡ or_first (kind all g d) (in_defs kind all g (defs_at defs (drop (i + 1) list)))
in_defs_step kind all g defs list i n d within at there =
    ap (λ (ns : List ℕ). first_of (in_defs kind all g (defs_at defs ns)))
    (drop_more list i n within ∙ ap (λ (m : ℕ). m ∷ drop (i + 1) list) at)
    ∙ ap (λ (o : Option Def). first_of (in_defs kind all g (numbered n o (defs_at defs (drop (i + 1) list))))) there
    ∙ first_front (kind all g d) (in_defs kind all g (defs_at defs (drop (i + 1) list)))

own_defs : (kind : Kind) (all : List Group) (ds : List Numbered)
    → in_defs kind all (group_by ds) (group_by ds).defs ≡ in_defs kind all (group_by ds) ds
own_defs kind all [] = refl
own_defs kind all (d ∷ ds) = refl

pub in_groups_step : (kind : Kind) (all : List Group) (defs : List Def) (lists : List (List ℕ)) (i : ℕ) (list : List ℕ)
    → i < length lists → get_or lists i list ≡ list
    → first_of (in_groups kind all (groups_at defs (drop i lists)))
    ≡ or_first (first_of (in_defs kind all (group_by (defs_at defs list)) (defs_at defs list)))
    (in_groups kind all (groups_at defs (drop (i + 1) lists)))
in_groups_step kind all defs lists i list within at =
    ap (λ (ls : List (List ℕ)). first_of (in_groups kind all (groups_at defs ls)))
    (drop_more lists i list within ∙ ap (λ (l : List ℕ). l ∷ drop (i + 1) lists) at)
    ∙ ap (λ (ps : List Pos). first_of (ps ++ in_groups kind all (groups_at defs (drop (i + 1) lists))))
    (own_defs kind all (defs_at defs list))
    ∙ first_append (in_defs kind all (group_by (defs_at defs list)) (defs_at defs list))
    (in_groups kind all (groups_at defs (drop (i + 1) lists)))

pub in_targets_step : (kind : Kind) (defs : List Def) (targets : List Groups) (i : ℕ) (target : Groups)
    → i < length targets → get_or targets i target ≡ target
    → first_of (in_targets kind (groups_at_each defs (drop i targets)))
    ≡ or_first
    (first_of (in_groups kind (groups_at defs target.lists.items) (groups_at defs target.lists.items)))
    (in_targets kind (groups_at_each defs (drop (i + 1) targets)))
in_targets_step kind defs targets i target within at =
    ap (λ (ts : List Groups). first_of (in_targets kind (groups_at_each defs ts)))
    (drop_more targets i target within ∙ ap (λ (t : Groups). t ∷ drop (i + 1) targets) at)
    ∙ first_append (in_groups kind (groups_at defs target.lists.items) (groups_at defs target.lists.items))
    (in_targets kind (groups_at_each defs (drop (i + 1) targets)))

-- the same where the lists and the list are borrowed
pub in_groups_borrowed : (kind : Kind) (all : List Group) (defs : List Def) (lists items : List (List ℕ)) (i : ℕ)
    (list slice : List ℕ) → items ≡ lists → slice ≡ list → i < length items → list ≡ get_or items i list
    → first_of (in_groups kind all (groups_at defs (drop i lists)))
    ≡ or_first (first_of (in_defs kind all (group_by (defs_at defs slice)) (defs_at defs slice)))
    (in_groups kind all (groups_at defs (drop (i + 1) lists)))
in_groups_borrowed kind all defs lists items i list slice same is within at =
    in_groups_step kind all defs lists i list (subst (λ (ls : List (List ℕ)). i < length ls) same within)
    (sym (subst (λ (ls : List (List ℕ)). list ≡ get_or ls i list) same at))
    ∙ ap (λ (l : List ℕ). or_first (first_of (in_defs kind all (group_by (defs_at defs l)) (defs_at defs l)))
    (in_groups kind all (groups_at defs (drop (i + 1) lists)))) (sym is)
