-- What one definition, one target more adds, and all of them.
use Rattle.std.proofs.Common.{◌≡◌, ℕ, ◌+◌, ◌<◌, Bool, List, [], ◌∷◌, ◌++◌, map, length, take, get_or}
use Rattle.std.proofs.Common.{Some, slice_get, refl, sym, ap, ◌∙◌, subst}
use Rattle.std.proofs.lemmas.List.{append_assoc, append-nil, take_more}
use Rattle.cat_pos.specs.declared.pos.Pos.{Pos}
use Rattle.cat_value.specs.declared.decls.Decls.{Decls}
use Rattle.cat_value.specs.declared.outcome.Target.{Target}
use Rattle.cat_scope.specs.declared.defs.Def.{Def}
use Rattle.cat_scope.specs.declared.forest.ForestTarget.{ForestTarget}
use Rattle.cat_scope.specs.Groups.{Numbered, groups_of, excepts, roots_of}
use Rattle.cat_scope.specs.Targets.{defs_from}
use Rattle.cat_guard.specs.declared.guard.GuardDef.{GuardDef}
use Rattle.cat_guard.specs.declared.guard.GuardGroup.{GuardGroup}
use Rattle.cat_guard.specs.declared.table.TableTarget.{TableTarget}
use Rattle.cat_guard.specs.Formulas.{asked}
use Rattle.cat_guard.specs.Questions.{Question}
use Rattle.cat_guard.specs.Tables.{def_formula, defs_questions, questions_of, guard_def, guard_groups, target_of}
use Rattle.cat_guard.specs.Tables.{target_name, is_function, may_be_empty, item_pos}
use Rattle.cat_except.specs.inside.Grouping.{defs_at}
use Rattle.cat_audit_table.specs.declared.numbering.Numbering.{Numbering}
use Rattle.cat_audit_table.specs.Numbered.{IsNumberingOf, Grows, IsMade}
use Rattle.cat_audit_table.proofs.Adding.{grows_then, made_front, made_back}
use Rattle.cat_audit_table.specs.declared.scene.TabledScope.{TabledScope}
use Rattle.cat_audit_table.specs.inside.Added.{AddsDef, AddsDefs, AddsTarget, AddsTargets, IsSceneTable, targets_in}
use Rattle.cat_audit_table.specs.inside.Added.{scene_questions}
use Rattle.cat_scope.proofs.Exported.{map_append}
use Rattle.cat_except.proofs.Exported.{defs_at_push}

-- ---- definitions

questions_push : (ds : Decls) (xs : List Numbered) (d : Numbered)
    → defs_questions ds (xs ++ d ∷ []) ≡ defs_questions ds xs ++ asked (def_formula ds d.1)
questions_push ds [] d = append-nil (asked (def_formula ds d.1))
questions_push ds (x ∷ xs) d =
    ap (λ (qs : List Question). asked (def_formula ds x.1) ++ qs) (questions_push ds xs d)
    ∙ sym (append_assoc (asked (def_formula ds x.1)) (defs_questions ds xs) (asked (def_formula ds d.1)))

one_def : (scene : TabledScope) (xs : List Numbered) (d : Numbered) (before middle after : Numbering)
    (made : List GuardDef)
    (new : GuardDef) → AddsDefs scene xs before middle made → AddsDef scene d middle after new
    → AddsDefs scene (xs ++ d ∷ []) before after (made ++ new ∷ [])
one_def scene xs d before middle after made new is also = record {
  grown = subst (λ (qs : List Question). Grows scene.items.now qs before after) (sym push)
      (grows_then scene.items.now front more before middle after is.grown also.grown);
  made_is = subst (λ (qs : List Question). IsMade scene.items.now qs
      (λ qs. map (guard_def scene.decls.now qs) (xs ++ d ∷ [])) before (made ++ new ∷ [])) (sym push)
      (λ qs rest are.
      ap (λ (ys : List GuardDef). ys ++ new ∷ [])
      (made_front scene.items.now front more (λ qs. map (guard_def scene.decls.now qs) xs) before made is.made_is qs
      rest are)
      ∙ ap (λ (y : GuardDef). map (guard_def scene.decls.now (whole qs rest)) xs ++ y ∷ [])
      (made_back scene.items.now front more (λ qs. guard_def scene.decls.now qs d) before middle new is.grown
      also.made_is qs rest are)
      ∙ sym (map_append (guard_def scene.decls.now (whole qs rest)) xs (d ∷ [])));
}
  where
    front : List Question
    front = defs_questions scene.decls.now xs

    more : List Question
    more = asked (def_formula scene.decls.now d.1)

    push : defs_questions scene.decls.now (xs ++ d ∷ []) ≡ front ++ more
    push = questions_push scene.decls.now xs d

    whole : List Question → List Question → List Question
    whole qs rest = qs ++ ((front ++ more) ++ rest)

pub one_def_more : (scene : TabledScope) (numbers : List ℕ) (i n : ℕ) (d : Def) (before middle after : Numbering)
    (made now : List GuardDef) (new : GuardDef) → i < length numbers → get_or numbers i n ≡ n
    → slice_get scene.defs.now n ≡ Some d
    → AddsDefs scene (defs_at scene.defs.now (take i numbers)) before middle made
    → AddsDef scene (n, d) middle after new → now ≡ made ++ new ∷ []
    → AddsDefs scene (defs_at scene.defs.now (take (i + 1) numbers)) before after now
one_def_more scene numbers i n d before middle after made now new within at there is also pushed =
    subst (λ (gs : List GuardDef). AddsDefs scene (defs_at scene.defs.now (take (i + 1) numbers)) before after gs)
    (sym pushed)
    (subst (λ (xs : List Numbered). AddsDefs scene xs before after (made ++ new ∷ []))
    (sym (defs_at_push scene.defs.now n d there (take i numbers))
    ∙ ap (defs_at scene.defs.now)
    (ap (λ (k : ℕ). take i numbers ++ k ∷ []) (sym at) ∙ sym (take_more numbers i n within)))
    (one_def scene (defs_at scene.defs.now (take i numbers)) (n, d) before middle after made new is also))

-- ---- targets

abbrev the_target : Target → List ℕ → Bool → Bool → Pos → List GuardDef → List GuardGroup → List ℕ → TableTarget
the_target target name function may_be_empty pos defs groups roots = record {
  target = target;
  name = name;
  function = function;
  may_be_empty = may_be_empty;
  pos = pos;
  defs = defs;
  groups = groups;
  roots = roots;
}

pub target_added : (scene : TabledScope) (t : Target) (before after : Numbering) (name : List ℕ) (function empty : Bool)
    (pos : Pos) (defs : List GuardDef) (groups : List GuardGroup) (roots : List ℕ)
    → name ≡ target_name scene.decls.now (slice_get scene.items.now t.item) t.inner
    → function ≡ is_function (slice_get scene.items.now t.item) t.inner
    → empty ≡ may_be_empty scene.decls.now (slice_get scene.items.now t.item) t.inner
    → pos ≡ item_pos (slice_get scene.items.now t.item)
    → AddsDefs scene (defs_from t 0 scene.defs.now) before after defs
    → groups ≡ guard_groups (defs_from t 0 scene.defs.now) (excepts (groups_of (defs_from t 0 scene.defs.now))) 0
    (groups_of (defs_from t 0 scene.defs.now))
    → roots ≡ roots_of (groups_of (defs_from t 0 scene.defs.now))
    → AddsTarget scene t before after (the_target t name function empty pos defs groups roots)
target_added scene t before after name function empty pos defs groups roots name_is function_is empty_is pos_is is
    groups_are roots_are = record {
      grown = is.grown;
      made_is = λ qs rest are.
          ap (λ (x : List ℕ). the_target t x function empty pos defs groups roots) name_is
          ∙ ap (λ (x : Bool). the_target t name_of x empty pos defs groups roots) function_is
          ∙ ap (λ (x : Bool). the_target t name_of function_of x pos defs groups roots) empty_is
          ∙ ap (λ (x : Pos). the_target t name_of function_of empty_of x defs groups roots) pos_is
          ∙ ap (λ (x : List GuardDef). the_target t name_of function_of empty_of pos_of x groups roots)
          (is.made_is qs rest are)
          ∙ ap (λ (x : List GuardGroup). the_target t name_of function_of empty_of pos_of (made qs rest) x roots)
          groups_are
          ∙ ap (λ (x : List ℕ). the_target t name_of function_of empty_of pos_of (made qs rest) groups_in x)
          roots_are;
    }
  where
    name_of : List ℕ
    name_of = target_name scene.decls.now (slice_get scene.items.now t.item) t.inner

    function_of : Bool
    function_of = is_function (slice_get scene.items.now t.item) t.inner

    empty_of : Bool
    empty_of = may_be_empty scene.decls.now (slice_get scene.items.now t.item) t.inner

    pos_of : Pos
    pos_of = item_pos (slice_get scene.items.now t.item)

    made : List Question → List Question → List GuardDef
    made qs rest = map (guard_def scene.decls.now
        (qs ++ (defs_questions scene.decls.now (defs_from t 0 scene.defs.now) ++ rest))) (defs_from t 0 scene.defs.now)

    groups_in : List GuardGroup
    groups_in = guard_groups (defs_from t 0 scene.defs.now) (excepts (groups_of (defs_from t 0 scene.defs.now))) 0
        (groups_of (defs_from t 0 scene.defs.now))

all_questions_push : (ds : Decls) (defs : List Def) (ts : List Target) (t : Target)
    → questions_of ds defs (ts ++ t ∷ []) ≡ questions_of ds defs ts ++ defs_questions ds (defs_from t 0 defs)
all_questions_push ds defs [] t = append-nil (defs_questions ds (defs_from t 0 defs))
all_questions_push ds defs (u ∷ ts) t =
    ap (λ (qs : List Question). defs_questions ds (defs_from u 0 defs) ++ qs) (all_questions_push ds defs ts t)
    ∙ sym (append_assoc (defs_questions ds (defs_from u 0 defs)) (questions_of ds defs ts)
    (defs_questions ds (defs_from t 0 defs)))

one_target : (scene : TabledScope) (ts : List Target) (t : Target) (before middle after : Numbering)
    (made : List TableTarget) (new : TableTarget) → AddsTargets scene ts before middle made
    → AddsTarget scene t middle after new → AddsTargets scene (ts ++ t ∷ []) before after (made ++ new ∷ [])
one_target scene ts t before middle after made new is also = record {
  grown = subst (λ (qs : List Question). Grows scene.items.now qs before after) (sym push)
      (grows_then scene.items.now front more before middle after is.grown also.grown);
  made_is = subst (λ (qs : List Question). IsMade scene.items.now qs
      (λ qs. map (make qs) (ts ++ t ∷ [])) before (made ++ new ∷ [])) (sym push)
      (λ qs rest are.
      ap (λ (ys : List TableTarget). ys ++ new ∷ [])
      (made_front scene.items.now front more (λ qs. map (make qs) ts) before made is.made_is qs rest are)
      ∙ ap (λ (y : TableTarget). map (make (whole qs rest)) ts ++ y ∷ [])
      (made_back scene.items.now front more (λ qs. make qs t) before middle new is.grown also.made_is qs rest are)
      ∙ sym (map_append (make (whole qs rest)) ts (t ∷ [])));
}
  where
    make : List Question → Target → TableTarget
    make = target_of scene.decls.now scene.items.now scene.defs.now

    front : List Question
    front = questions_of scene.decls.now scene.defs.now ts

    more : List Question
    more = defs_questions scene.decls.now (defs_from t 0 scene.defs.now)

    push : questions_of scene.decls.now scene.defs.now (ts ++ t ∷ []) ≡ front ++ more
    push = all_questions_push scene.decls.now scene.defs.now ts t

    whole : List Question → List Question → List Question
    whole qs rest = qs ++ ((front ++ more) ++ rest)

targets_push : (fs : List ForestTarget) (f : ForestTarget) → targets_in (fs ++ f ∷ []) ≡ targets_in fs
    ++ f.target ∷ []
targets_push [] f = refl
targets_push (g ∷ fs) f = ap (λ (ts : List Target). g.target ∷ ts) (targets_push fs f)

pub one_target_more : (scene : TabledScope) (forest : List ForestTarget) (i : ℕ) (f : ForestTarget)
    (before middle after : Numbering) (made now : List TableTarget) (new : TableTarget) → i < length forest
    → get_or forest i f ≡ f → AddsTargets scene (targets_in (take i forest)) before middle made
    → AddsTarget scene f.target middle after new → now ≡ made ++ new ∷ []
    → AddsTargets scene (targets_in (take (i + 1) forest)) before after now
one_target_more scene forest i f before middle after made now new within at is also pushed =
    subst (λ (ys : List TableTarget). AddsTargets scene (targets_in (take (i + 1) forest)) before after ys) (sym pushed)
    (subst (λ (ts : List Target). AddsTargets scene ts before after (made ++ new ∷ []))
    (sym (targets_push (take i forest) f)
    ∙ ap targets_in (ap (λ (g : ForestTarget). take i forest ++ g ∷ []) (sym at) ∙ sym (take_more forest i f within)))
    (one_target scene (targets_in (take i forest)) f.target before middle after made new is also))

-- ---- the whole

pub scene_table : (scene : TabledScope) (ts : List Target) (before after : Numbering) (targets : List TableTarget)
    → IsNumberingOf scene.items.now [] before → AddsTargets scene ts before after targets
    → IsSceneTable scene ts targets after.terms.terms after.atoms.atoms
scene_table scene ts before after targets none is =
    let are = is.grown [] none in record {
      targets_are = is.made_is [] [] none
          ∙ ap (λ (qs : List Question). map (target_of scene.decls.now scene.items.now scene.defs.now qs) ts)
          (append-nil (scene_questions scene ts));
      terms_are = are.terms.terms_are;
      atoms_are = are.atoms.atoms_are;
    }
