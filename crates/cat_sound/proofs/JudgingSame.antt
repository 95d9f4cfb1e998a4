-- A target comes to the same where its definitions do.
use Rattle.std.proofs.Common.{◌≡◌, ℕ, zero, suc, Bool, true, false, IsTrue, List, [], ◌∷◌, ◌++◌, map, length, Option}
use Rattle.std.proofs.Common.{Some, None, slice_get, refl, sym, ap, ◌∙◌, true≢false, if◌then◌else◌}
use mathlib.Core.Path.{fun_ext}
use Rattle.std.specs.Prelude.{nat_eq}
use Rattle.cat_value.specs.declared.outcome.Target.{Target}
use Rattle.cat_value.specs.declared.value.Value.{Value}
use Rattle.cat_scope.specs.declared.expr.Expr.{Expr}
use Rattle.cat_scope.specs.declared.defs.Def.{Def}
use Rattle.cat_scope.specs.Runs.{Run, gives, and_then, choose}
use Rattle.cat_scope.specs.Names.{AllHave}
use Rattle.cat_scope.specs.Groups.{Numbered, Group, groups_of, roots_of, excepts}
use Rattle.cat_scope.specs.Judging.{Judged, settle, judge}
use Rattle.cat_scope.specs.Targets.{same_inner, same_target, defs_from, condition_of, held_as, judge_def, own_by}
use Rattle.cat_scope.specs.Targets.{judge_target}
use Rattle.cat_scope.specs.Eval.{Env, eval}
use Rattle.cat_scope.specs.Orders.{in_condition, in_def, in_defs_of}
use Rattle.cat_scope.specs.Mentions.{items_named, scopes_named}
use Rattle.cat_sound.specs.Rests.{TellSame, CallSame}
use Rattle.cat_sound.proofs.Results.{both, all_front, all_back}
use Rattle.cat_sound.proofs.TargetTypes.{groups-all, defs-all}
use Rattle.cat_sound.proofs.Rests.{names_alone}

module _ (v w : Expr → Run Value) where
  -- the condition and the consequence of a definition give the same
  pub record DefSame (d : Def) : Type 0 where
    pub condition : condition_of v d.condition ≡ condition_of w d.condition
    pub consequence : v d.consequence ≡ w d.consequence

  def_same : (d : Numbered) → DefSame d.1 → judge_def v d ≡ judge_def w d
  def_same d h =
      ap (λ (c : Run Value). and_then c (λ t. choose t (and_then (v d.1.consequence) (λ x. gives (Some (held_as d x))))
      (gives None))) h.condition
      ∙ ap (λ (k : Run Value). and_then (condition_of w d.1.condition)
      (λ t. choose t (and_then k (λ x. gives (Some (held_as d x)))) (gives None))) h.consequence

  defs_same : (ds : List Numbered) → AllHave (λ d. DefSame d.1) ds → map (judge_def v) ds ≡ map (judge_def w) ds
  defs_same [] h = refl
  defs_same (d ∷ ds) h = ap (λ (j : Judged Value). j ∷ map (judge_def v) ds) (def_same d h.0)
      ∙ ap (λ (js : List (Judged Value)). judge_def w d ∷ js) (defs_same ds h.1)

  own_same : (target : Target) (groups : List Group) → AllHave (λ g. AllHave (λ d. DefSame d.1) g.defs) groups → (k : ℕ)
      → own_by (judge_def v) target (slice_get groups k) ≡ own_by (judge_def w) target (slice_get groups k)
  own_same target [] all k = refl
  own_same target (g ∷ groups) all zero = ap (settle target) (defs_same g.defs all.0)
  own_same target (g ∷ groups) all (suc k) = own_same target groups all.1 k

  pub target_same : (target : Target) (defs : List Def) → AllHave (λ d. IsTrue (same_target d.target target)
      → DefSame d) defs → judge_target v target defs ≡ judge_target w target defs
  unfolding judge_target
  target_same target defs h =
      let all = defs_from target 0 defs in
      let groups = groups_of all in
      ap (λ (own : ℕ → Judged Value). settle target (map (judge target (excepts groups) own (length groups))
      (roots_of groups)))
      (fun_ext (own_same target groups (groups-all (λ d. DefSame d.1) all [] all (defs-all DefSame target 0 defs h))))

-- where two environments agree on what a definition names
module _ (a b : Env) (arguments : List Value) where
  abbrev of_a : Expr → Run Value
  of_a e = eval a e arguments

  abbrev of_b : Expr → Run Value
  of_b e = eval b e arguments

  condition_same : (o : Option Expr) → a.rounding ≡ b.rounding → AllHave (TellSame a b) (in_condition items_named o)
      → AllHave (CallSame a b) (in_condition scopes_named o) → condition_of of_a o ≡ condition_of of_b o
  condition_same None r items scopes = refl
  condition_same (Some e) r items scopes =
      names_alone a b e arguments (record { rounding = r; items = items; scopes = scopes })

  pub def_agrees : (d : Def) → a.rounding ≡ b.rounding → AllHave (TellSame a b) (in_def items_named d)
      → AllHave (CallSame a b) (in_def scopes_named d) → DefSame of_a of_b d
  def_agrees d r items scopes = record {
    condition = condition_same d.condition r (all_front (TellSame a b) (in_condition items_named d.condition)
        (items_named d.consequence) items)
        (all_front (CallSame a b) (in_condition scopes_named d.condition) (scopes_named d.consequence) scopes);
    consequence = names_alone a b d.consequence arguments (record {
      rounding = r;
      items = all_back (TellSame a b) (in_condition items_named d.condition) (items_named d.consequence) items;
      scopes = all_back (CallSame a b) (in_condition scopes_named d.condition) (scopes_named d.consequence) scopes;
    });
  }

  -- what the definitions of an item name is all that is asked of the environments
  pub defs_agree : (item : ℕ) (inner : Option ℕ) (scope : ℕ) → a.rounding ≡ b.rounding → (defs : List Def)
      → AllHave (TellSame a b) (in_defs_of items_named item defs)
      → AllHave (λ d. AllHave (CallSame a b) (in_def scopes_named d)) defs
      → AllHave (λ d. IsTrue (same_target d.target (record { scope = scope; item = item; inner = inner }))
      → DefSame of_a of_b d) defs
  defs_agree item inner scope r [] items scopes = tt
  defs_agree item inner scope r (d ∷ defs) items scopes =
      by (nat_eq d.target.item item) refl items (λ rest. defs_agree item inner scope r defs rest scopes.1)
    where
      by : (c : Bool) → nat_eq d.target.item item ≡ c → AllHave (TellSame a b) (if c then in_def items_named d
          ++ in_defs_of items_named item defs else in_defs_of items_named item defs)
          → (AllHave (TellSame a b) (in_defs_of items_named item defs)
          → AllHave (λ d. IsTrue (same_target d.target (record { scope = scope; item = item; inner = inner }))
          → DefSame of_a of_b d) defs)
          → AllHave (λ d. IsTrue (same_target d.target (record { scope = scope; item = item; inner = inner }))
          → DefSame of_a of_b d) (d ∷ defs)
      by true e h rest = (
        (λ same. def_agrees d r (all_front (TellSame a b) (in_def items_named d) (in_defs_of items_named item defs)
            h) scopes.0),
        rest (all_back (TellSame a b) (in_def items_named d) (in_defs_of items_named item defs) h),
      )
      by false e h rest = (
        (λ same. absurd (true≢false (sym (both (nat_eq d.target.item item) (same_inner d.target.inner inner) same).0
            ∙ e))),
        rest h,
      )
