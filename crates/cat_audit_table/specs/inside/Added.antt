-- What definitions and targets add to the numbering of what conditions ask.
use Rattle.std.specs.Prelude.{◌≡◌, List, [], ◌∷◌, map}
use Rattle.cat_value.specs.declared.outcome.Target.{Target}
use Rattle.cat_scope.specs.declared.defs.Def.{Def}
use Rattle.cat_scope.specs.declared.forest.ForestTarget.{ForestTarget}
use Rattle.cat_scope.specs.Groups.{Numbered, groups_of}
use Rattle.cat_scope.specs.Targets.{defs_from}
use Rattle.cat_scope.specs.Forests.{forest_of_groups}
use Rattle.cat_guard.specs.declared.guard.GuardDef.{GuardDef}
use Rattle.cat_guard.specs.declared.table.TableTarget.{TableTarget}
use Rattle.cat_guard.specs.declared.table.Term.{Term}
use Rattle.cat_guard.specs.declared.table.Atom.{Atom}
use Rattle.cat_guard.specs.Formulas.{asked}
use Rattle.cat_guard.specs.Questions.{Question}
use Rattle.cat_guard.specs.Terms.{terms_of, atoms_of}
use Rattle.cat_guard.specs.Tables.{def_formula, defs_questions, questions_of, guard_def, target_of}
use Rattle.cat_audit_table.specs.declared.numbering.Numbering.{Numbering}
use Rattle.cat_audit_table.specs.Numbered.{Grows, IsMade}
use Rattle.cat_audit_table.specs.declared.scene.TabledScope.{TabledScope}

-- a definition more
pub record AddsDef (scene : TabledScope) (d : Numbered) (before after : Numbering) (made : GuardDef) : Type 0 where
  pub grown : Grows scene.items.now (asked (def_formula scene.decls.now d.1)) before after
  pub made_is : IsMade scene.items.now (asked (def_formula scene.decls.now d.1))
      (λ qs. guard_def scene.decls.now qs d) before made

-- some definitions more
pub record AddsDefs (scene : TabledScope) (ds : List Numbered) (before after : Numbering) (made : List GuardDef)
    : Type 0 where
  pub grown : Grows scene.items.now (defs_questions scene.decls.now ds) before after
  pub made_is : IsMade scene.items.now (defs_questions scene.decls.now ds)
      (λ qs. map (guard_def scene.decls.now qs) ds) before made

-- a target more
pub record AddsTarget (scene : TabledScope) (t : Target) (before after : Numbering) (made : TableTarget) : Type 0 where
  pub grown : Grows scene.items.now (defs_questions scene.decls.now (defs_from t 0 scene.defs.now)) before after
  pub made_is : IsMade scene.items.now (defs_questions scene.decls.now (defs_from t 0 scene.defs.now))
      (λ qs. target_of scene.decls.now scene.items.now scene.defs.now qs t) before made

-- some targets more
pub record AddsTargets (scene : TabledScope) (ts : List Target) (before after : Numbering) (made : List TableTarget)
    : Type 0 where
  pub grown : Grows scene.items.now (questions_of scene.decls.now scene.defs.now ts) before after
  pub made_is : IsMade scene.items.now (questions_of scene.decls.now scene.defs.now ts)
      (λ qs. map (target_of scene.decls.now scene.items.now scene.defs.now qs) ts) before made

-- a target of a forest has the groups of its definitions
abbrev pub IsForestOf : List Def → ForestTarget → Type 0
IsForestOf defs target = target.groups ≡ forest_of_groups (groups_of (defs_from target.target 0 defs))

-- the targets of a forest
abbrev pub targets_in : List ForestTarget → List Target
targets_in [] = []
targets_in (f ∷ forest) = f.target ∷ targets_in forest

-- all questions of some targets
abbrev pub scene_questions : TabledScope → List Target → List Question
scene_questions scene ts = questions_of scene.decls.now scene.defs.now ts

-- targets with the terms and the atoms of all their questions
pub record IsSceneTable (scene : TabledScope) (ts : List Target) (targets : List TableTarget) (terms : List Term)
    (atoms : List Atom) : Type 0 where
  pub targets_are : targets
      ≡ map (target_of scene.decls.now scene.items.now scene.defs.now (scene_questions scene ts)) ts
  pub terms_are : terms ≡ terms_of scene.items.now (scene_questions scene ts)
  pub atoms_are : atoms ≡ atoms_of (scene_questions scene ts)
