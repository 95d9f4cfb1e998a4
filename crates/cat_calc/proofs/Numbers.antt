-- Definitions by their numbers.
use Rattle.std.proofs.Common.{◌≡◌, ℕ, zero, suc, ◌+◌, ◌<◌, Bool, true, false, List, [], ◌∷◌, length, map, drop, get_or}
use Rattle.std.proofs.Common.{Some, slice_get, refl, ap, ◌∙◌, sym, subst, arith, All, if◌then◌else◌}
use Rattle.std.proofs.lemmas.List.{drop_more}
use Rattle.std.proofs.lemmas.Option.{slice_get-get_or, slice_get_within}
use Rattle.cat_value.specs.declared.outcome.Target.{Target}
use Rattle.cat_scope.specs.declared.defs.Def.{Def}
use Rattle.cat_scope.specs.declared.forest.ForestGroup.{ForestGroup}
use Rattle.cat_scope.specs.Names.{AllHave}
use Rattle.cat_scope.specs.Groups.{Numbered, Group, excepts, excepting}
use Rattle.cat_scope.specs.Forests.{definition_numbers, forest_groups, forest_of_groups}
use Rattle.cat_sound.proofs.Exported.{all_at, same_some, IsNumbered, numbered_groups}
use Rattle.cat_calc.specs.inside.Numbered.{numbered_as, numbered_at, groups_in}
use Rattle.cat_calc.specs.inside.Terms.{definition_term, one_of, own_term}

-- the next of some numbers, with its definition
pub next_numbered : (defs : List Def) (ns : List ℕ) (i : ℕ) (d : Def) → i < length ns → get_or ns i 0 < length defs
    → d ≡ get_or defs (get_or ns i 0) d
    → numbered_at defs (drop i ns) ≡ (get_or ns i 0, d) ∷ numbered_at defs (drop (i + 1) ns)
next_numbered defs ns i d within below there =
    ap (numbered_at defs) (drop_more ns i 0 within)
    ∙ ap (λ o. numbered_as (get_or ns i 0) o (numbered_at defs (drop (i + 1) ns)))
    (slice_get-get_or defs (get_or ns i 0) d below ∙ ap Some (sym there))

-- definitions are those of their numbers
numbered_same : (defs : List Def) (ds : List Numbered) → AllHave (IsNumbered defs) ds
    → numbered_at defs (definition_numbers ds) ≡ ds
numbered_same defs [] all = refl
numbered_same defs (d ∷ ds) all =
    ap (λ o. numbered_as d.0 o (numbered_at defs (definition_numbers ds))) all.0
    ∙ ap (λ rest. d ∷ rest) (numbered_same defs ds all.1)

numbers_below : (defs : List Def) (ds : List Numbered) → AllHave (IsNumbered defs) ds
    → AllHave (λ n. n < length defs) (definition_numbers ds)
numbers_below defs [] all = tt
numbers_below defs (d ∷ ds) all = (slice_get_within defs d.0 d.1 all.0, numbers_below defs ds all.1)

pub all_as : {A : Type 0} (P : A → Type 0) (xs : List A) → AllHave P xs → All P xs
all_as P [] all k d within = absurd (omega (arith, within))
all_as P (x ∷ xs) all zero d within = all.0
all_as P (x ∷ xs) all (suc k) d within = all_as P xs all.1 k d (omega (arith, within))

-- a group of a forest is one of the target's
pub record IsGroupAt (groups : List Group) (pairs : List (ℕ × ℕ)) (n k : ℕ) (found : ForestGroup) : Type 0 where
  pub group : Group
  pub there : slice_get groups k ≡ Some group
  pub defs : found.defs ≡ definition_numbers group.defs
  pub above : found.excepted_by ≡ excepting pairs (n + k)

group_at : (pairs : List (ℕ × ℕ)) (n : ℕ) (groups : List Group) (k : ℕ) (found : ForestGroup)
    → slice_get (forest_groups pairs n groups) k ≡ Some found → IsGroupAt groups pairs n k found
group_at pairs n [] k found is = absurd (cc)
group_at pairs n (g ∷ gs) zero found is = record {
  group = g;
  there = refl;
  defs = ap (λ f. f.defs) (sym (same_some _ found is));
  above = ap (λ f. f.excepted_by) (sym (same_some _ found is)) ∙ ap (excepting pairs) (omega arith);
}
group_at pairs n (g ∷ gs) (suc k) found is =
    let at = group_at pairs (n + 1) gs k found is in
    record {
      group = at.group;
      there = at.there;
      defs = at.defs;
      above = at.above ∙ ap (excepting pairs) (omega arith);
    }

-- what is known of a group of a forest that stands for the labels of a target's definitions
pub record IsKnownAt (defs : List Def) (groups : List Group) (number : ℕ) (found : ForestGroup) : Type 0 where
  pub named : All (λ n. n < length defs) found.defs
  pub own : one_of (map definition_term (numbered_at defs found.defs)) ≡ own_term (slice_get groups number)
  pub above : found.excepted_by ≡ excepting (excepts groups) number

pub known_at : (defs : List Def) (target : Target) (number : ℕ) (found : ForestGroup)
    → slice_get (forest_of_groups (groups_in defs target)) number ≡ Some found
    → IsKnownAt defs (groups_in defs target) number found
known_at defs target number found is =
    let groups = groups_in defs target in
    let at = group_at (excepts groups) 0 groups number found is in
    let all = all_at (λ g. AllHave (IsNumbered defs) g.defs) groups number at.group (numbered_groups defs target)
    at.there in
    record {
      named = subst (All (λ n. n < length defs)) (sym at.defs)
          (all_as (λ n. n < length defs) (definition_numbers at.group.defs) (numbers_below defs at.group.defs all));
      own = ap (λ ns. one_of (map definition_term (numbered_at defs ns))) at.defs
          ∙ ap (λ ds. one_of (map definition_term ds)) (numbered_same defs at.group.defs all)
          ∙ ap own_term (sym at.there);
      above = at.above ∙ ap (excepting (excepts groups)) (omega arith);
    }
