-- The judging of a target follows its guards in a table.
use Rattle.std.proofs.Common.{◌≡◌, inr, ℕ, zero, suc, ◌<◌, nat_lt, Bool}
use Rattle.std.proofs.Common.{IsTrue}
use Rattle.std.proofs.Common.{List, [], ◌∷◌, map, length, Option, Some, None, slice_get, refl}
use Rattle.std.proofs.Common.{sym, ap}
use Rattle.std.proofs.Common.{◌∙◌, subst, arith}
use Rattle.std.specs.List.{list_all}
use Rattle.std.proofs.lemmas.Bool.Decides.{nat_tests}
use Rattle.cat_value.specs.declared.value.Value.{Value}
use Rattle.cat_value.specs.declared.decls.Decls.{Decls}
use Rattle.cat_value.specs.declared.declaration.ItemDecl.{ItemDecl}
use Rattle.cat_value.specs.declared.outcome.Target.{Target}
use Rattle.cat_value.proofs.Exported.{list_all_at}
use Rattle.cat_scope.specs.declared.stop.Stop.{Stop}
use Rattle.cat_scope.specs.declared.expr.Expr.{Expr}
use Rattle.cat_scope.specs.declared.defs.Def.{Def}
use Rattle.cat_scope.specs.Runs.{Run}
use Rattle.cat_scope.specs.Names.{AllHave, IsOneOf}
use Rattle.cat_scope.specs.Groups.{Numbered, Group, groups_of, roots_of, excepts, excepting}
use Rattle.cat_scope.specs.Groups.{exceptions_of}
use Rattle.cat_scope.specs.Judging.{Judged, settle, judge}
use Rattle.cat_scope.specs.Targets.{defs_from, judge_def, own_by, judge_groups, judge_target}
use Rattle.cat_scope.specs.Chains.{HasNoCycle, longest_chain, is_within}
use Rattle.cat_sound.proofs.Exported.{groups-all, judging_rule}
use Rattle.cat_guard.specs.declared.table.TableTarget.{TableTarget}
use Rattle.cat_guard.specs.Formulas.{truth}
use Rattle.cat_guard.specs.GuardFormulas.{formula_of}
use Rattle.cat_guard.specs.Questions.{Question}
use Rattle.cat_guard.specs.Tables.{guard_def, place_of, target_of}
use Rattle.cat_guard.specs.TableJudging.{Decided, by_truth, decided_def, decided_own, pairs_from, decided_group}
use Rattle.cat_guard.specs.TableJudging.{decided}
use Rattle.cat_guard.specs.Verdicts.{excepting_in}
use Rattle.cat_guard.specs.Soundness.{above, are_below, group_is_sound}
use Rattle.cat_guard.proofs.Exported.{both_true, all_true, all_more, all_and, entry, excepting_is, above_is}
use Rattle.cat_guard.proofs.Exported.{IsSoundTarget, are_within_at, chain_on, no_chain}
use Rattle.cat_audit_sound.specs.Follows.{Follows}
use Rattle.cat_audit_sound.proofs.ListsFollow.{settle_goes, or_else_goes, maps_go}
use Rattle.cat_audit_sound.proofs.Numbered.{all_at, get_map, all_are}
use Rattle.cat_audit_sound.proofs.TableGroups.{IsAt, defs_at, same_def, place_is, group_there, no_group}
use Rattle.cat_audit_sound.proofs.TableGroups.{above_are, as_many, no_cycle}

-- ---- a target

module _ (Has : Value → Type 0) (Inside : Stop → Type 0) (ds : Decls) (items : List ItemDecl) (defs : List Def)
    (qs : List Question) (t : Target) (of : Expr → Run Value) (holds : ℕ → Bool)
    (sound : IsSoundTarget (target_of ds items defs qs t)) where
  abbrev table : TableTarget
  table = target_of ds items defs qs t

  abbrev all : List Numbered
  all = defs_from t 0 defs

  abbrev groups : List Group
  groups = groups_of all

  abbrev pairs : List (ℕ × ℕ)
  pairs = excepts groups

  abbrev Goes : Judged Value → Decided → Type 0
  Goes r s = Follows Has Inside r.end s.end

  -- a definition follows its guard
  abbrev pub DefGoes : Numbered → Type 0
  DefGoes d = Goes (judge_def of d) (by_truth (truth holds (formula_of (guard_def ds qs d).guard)) d.0 d.1.pos)

  module _ (each : AllHave DefGoes all) where
    -- by its number among those of the target
    abbrev PlaceGoes : Numbered → Type 0
    PlaceGoes d = Goes (judge_def of d) (decided_def holds (slice_get table.defs (place_of d.0 all)))

    abbrev Known : Numbered → Type 0
    Known d = IsAt defs 0 d

    place_goes : (d : Numbered) → DefGoes d → Known d → IsOneOf d all → PlaceGoes d
    place_goes d goes is among =
        subst (λ o. Goes (judge_def of d) (decided_def holds o))
        (sym (get_map (guard_def ds qs) all (place_of d.0 all) d
        (place_is all Known (same_def defs 0) (defs_at t 0 defs) d is among))) goes

    places_go : AllHave PlaceGoes all
    places_go =
        all_and (λ d. DefGoes d × Known d) (λ d. IsOneOf d all) PlaceGoes all
        (all_and DefGoes Known (λ d. DefGoes d × Known d) all each (defs_at t 0 defs) (λ d h k. (h, k))) (all_are all)
        (λ d h k. place_goes d h.0 h.1 k)

    own_goes : (k : ℕ) → Goes (own_by (judge_def of) t (slice_get groups k))
        (decided_own table holds (slice_get table.groups k))
    own_goes k = by (slice_get groups k) refl
      where
        by : (o : Option Group) → slice_get groups k ≡ o
            → Goes (own_by (judge_def of) t o) (decided_own table holds (slice_get table.groups k))
        by None e =
            subst (λ x. Goes (own_by (judge_def of) t None) (decided_own table holds x))
            (sym (no_group all pairs 0 groups k e)) (inr refl)
        by (Some g) e =
            subst (λ x. Goes (own_by (judge_def of) t (Some g)) (decided_own table holds x))
            (sym (group_there all pairs 0 groups k g e))
            (settle_goes Has Inside t (map (judge_def of) g.defs)
            (map (λ p. decided_def holds (slice_get table.defs p)) (map (λ d. place_of d.0 all) g.defs))
            (maps_go Has Inside (judge_def of) (λ d. place_of d.0 all)
            (λ p. decided_def holds (slice_get table.defs p)) g.defs
            (all_at (λ g. AllHave PlaceGoes g.defs) groups k g (groups-all PlaceGoes all [] all places_go) e)))

    acyclic : HasNoCycle (exceptions_of groups)
    acyclic = subst HasNoCycle (above_are all pairs 0 groups) (no_cycle t table.groups sound.within)

    few : length table.groups ≡ length groups
    few = as_many all pairs 0 groups

    abbrev own : ℕ → Judged Value
    own g = own_by (judge_def of) t (slice_get groups g)

    abbrev judged : ℕ → Judged Value
    judged = judge t pairs own (length groups)

    map_same : (ns : List ℕ) → map (λ n. n) ns ≡ ns
    map_same [] = refl
    map_same (n ∷ ns) = ap (λ ms. n ∷ ms) (map_same ns)

    -- lists of groups
    groups_go : (m : ℕ) (gs : List ℕ) → AllHave (λ g. Goes (judged g) (decided_group table holds m g)) gs
        → Goes (settle t (map judged gs)) (settle t (map (decided_group table holds m) gs))
    groups_go m gs h =
        subst (λ ns. Goes (settle t (map judged gs)) (settle t (map (decided_group table holds m) ns))) (map_same gs)
        (settle_goes Has Inside t (map judged gs) (map (decided_group table holds m) (map (λ n. n) gs))
        (maps_go Has Inside judged (λ n. n) (decided_group table holds m) gs h))

    group_goes : (m g : ℕ) → IsTrue (is_within (above table.groups) m g) → IsTrue (nat_lt g (length table.groups))
        → Goes (judged g) (decided_group table holds m g)
    group_goes zero g within below = absurd (no_chain (above table.groups) g within)
    group_goes (suc m) g within below =
        let e = entry table.groups g below in
        let two = both_true (are_below (length table.defs) e.value.defs)
        (are_below (length table.groups) e.value.excepted_by)
        (list_all_at (group_is_sound (length table.defs) (length table.groups)) table.groups g e.value sound.groups
        e.is) in
        let on : IsTrue (list_all (is_within (above table.groups) m) (excepting_in (slice_get table.groups g))) =
        subst (λ hs. IsTrue (list_all (is_within (above table.groups) m) hs)) (above_is table.groups g)
        (chain_on (above table.groups) m g within) in
        let here : IsTrue (list_all (λ h. nat_lt h (length table.groups)) (excepting_in (slice_get table.groups g))) =
        subst (λ o. IsTrue (list_all (λ h. nat_lt h (length table.groups)) (excepting_in o))) (sym e.is) two.1 in
        let same : excepting pairs g ≡ excepting_in (slice_get table.groups g) = excepted g below in
        subst (λ x. Goes x (decided_group table holds (suc m) g))
        (sym (judging_rule t groups own g acyclic (below_groups g below)))
        (or_else_goes Has Inside (settle t (map judged (excepting pairs g))) (own g)
        (settle t (map (decided_group table holds m) (excepting (pairs_from 0 table.groups) g)))
        (decided_own table holds (slice_get table.groups g))
        (subst (λ hs. Goes (settle t (map judged hs))
        (settle t (map (decided_group table holds m) (excepting (pairs_from 0 table.groups) g))))
        (sym same)
        (subst (λ hs. Goes (settle t (map judged (excepting_in (slice_get table.groups g))))
        (settle t (map (decided_group table holds m) hs)))
        (sym (excepting_is table.groups g))
        (groups_go m (excepting_in (slice_get table.groups g))
        (all_and (λ h. IsTrue (is_within (above table.groups) m h)) (λ h. IsTrue (nat_lt h (length table.groups)))
        (λ h. Goes (judged h) (decided_group table holds m h)) (excepting_in (slice_get table.groups g))
        (all_true (is_within (above table.groups) m) (excepting_in (slice_get table.groups g)) on)
        (all_true (λ h. nat_lt h (length table.groups)) (excepting_in (slice_get table.groups g)) here)
        (group_goes m)))))
        (own_goes g))
      where
        below_groups : (g : ℕ) → IsTrue (nat_lt g (length table.groups)) → g < length groups
        below_groups g h = let many = few in grind (arith, nat_tests)

        excepted : (g : ℕ) → IsTrue (nat_lt g (length table.groups))
            → excepting pairs g ≡ excepting_in (slice_get table.groups g)
        excepted g h =
            let e = entry groups g (subst (λ n. IsTrue (nat_lt g n)) few h) in
            ap (excepting pairs) (omega arith) ∙ sym (ap excepting_in (group_there all pairs 0 groups g e.value e.is))

    pub groups_follow : Goes (judge_groups of t groups) (decided table holds)
    groups_follow =
        groups_go longest_chain (roots_of groups)
        (all_more (λ g. IsTrue (nat_lt g (length table.groups)))
        (λ g. Goes (judged g) (decided_group table holds longest_chain g)) (roots_of groups)
        (all_true (λ g. nat_lt g (length table.groups)) (roots_of groups) sound.roots)
        (λ g below. group_goes longest_chain g
        (are_within_at (above table.groups) longest_chain (length table.groups) g sound.within below) below))

  pub target_goes : AllHave DefGoes all → Goes (judge_target of t defs) (decided table holds)
  unfolding judge_target
  target_goes each = groups_follow each
