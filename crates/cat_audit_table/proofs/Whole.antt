-- The table of a scope of a program.
use Rattle.std.proofs.Common.{◌≡◌, ℕ, zero, suc, ◌+◌, ◌≤◌, true, IsTrue, List, [], ◌∷◌, ◌++◌, map, length}
use Rattle.std.proofs.Common.{Some, slice_get, refl, sym, ap, ◌∙◌, subst, arith}
use Rattle.std.proofs.Math.Bool.{Bool-set}
use Rattle.std.proofs.Math.Logic.{∥∥₁_elim}
use Rattle.cat_value.specs.declared.decls.Decls.{Decls}
use Rattle.cat_value.specs.declared.declaration.Enumeration.{Enumeration}
use Rattle.cat_value.specs.declared.declaration.ItemDecl.{ItemDecl}
use Rattle.cat_value.specs.declared.declaration.Scope.{Scope}
use Rattle.cat_value.specs.declared.outcome.Target.{Target}
use Rattle.cat_scope.specs.declared.defs.Def.{Def}
use Rattle.cat_scope.specs.declared.defs.Body.{Body}
use Rattle.cat_scope.specs.declared.forest.ForestTarget.{ForestTarget}
use Rattle.cat_scope.specs.declared.programs.Program.{Program}
use Rattle.cat_scope.specs.Names.{AllHave, Names, items_in, scope_items}
use Rattle.cat_scope.specs.Groups.{Numbered}
use Rattle.cat_scope.specs.Targets.{defs_from}
use Rattle.cat_scope.specs.Forests.{StandsFor, are_low, forest_of, targets_of}
use Rattle.cat_scope.specs.WellFormed.{DefTyped, IsBodyOf, AreBodiesOf, IsWellFormed}
use Rattle.cat_sound.proofs.Exported.{defs-all, same_some}
use Rattle.cat_guard.specs.declared.table.Table.{Table}
use Rattle.cat_guard.specs.declared.table.TableTarget.{TableTarget}
use Rattle.cat_guard.specs.declared.table.Term.{Term}
use Rattle.cat_guard.specs.declared.table.Atom.{Atom}
use Rattle.cat_guard.specs.Formulas.{asked}
use Rattle.cat_guard.specs.Questions.{Question}
use Rattle.cat_guard.specs.Terms.{terms_of, atoms_of}
use Rattle.cat_guard.specs.Tables.{TablesScope, standing_of, def_formula, defs_questions, questions_of}
use Rattle.cat_guard.specs.Tables.{target_of}
use Rattle.cat_guard.specs.Soundness.{is_sound}
use Rattle.cat_audit_table.specs.declared.scene.TabledScope.{TabledScope}
use Rattle.cat_audit_table.specs.inside.Added.{IsForestOf, IsSceneTable, scene_questions, targets_in}
use Rattle.cat_audit_table.proofs.Numbers.{all_each}
use Rattle.cat_audit_table.proofs.Fit.{IsFit, condition_fit}
use Rattle.cat_audit_table.proofs.Sound.{table_sound}
use Rattle.cat_scope.proofs.Exported.{all_append}

-- ---- a forest

pub forest_each : (defs : List Def) (ts : List Target) → AllHave (IsForestOf defs) (forest_of defs ts)
forest_each defs [] = tt
forest_each defs (t ∷ ts) = (refl, forest_each defs ts)

pub forest_targets : (defs : List Def) (ts : List Target) → targets_in (forest_of defs ts) ≡ ts
forest_targets defs [] = refl
forest_targets defs (t ∷ ts) = ap (λ (us : List Target). t ∷ us) (forest_targets defs ts)

-- ---- what conditions ask

module _ (ns : Names) (few : AllHave (λ (e : Enumeration). length e.cases ≤ 128) ns.decls.enumerations) (scope : ℕ)
    (defs : List Def) (typed : AllHave (DefTyped ns scope) defs) where
  -- the questions of a definition fit
  abbrev IsFitDef : Def → Type 0
  IsFitDef d = AllHave IsFit (asked (def_formula ns.decls d))

  def_fit : (d : Def) → DefTyped ns scope d → IsFitDef d
  def_fit d t = condition_fit ns few t.params (standing_of d) d.condition t.condition

  defs_fit : (ds : List Numbered) → AllHave (λ d. IsFitDef d.1) ds → AllHave IsFit (defs_questions ns.decls ds)
  defs_fit [] h = tt
  defs_fit (d ∷ ds) h =
      all_append IsFit (asked (def_formula ns.decls d.1)) (defs_questions ns.decls ds) h.0 (defs_fit ds h.1)

  pub questions_fit : (ts : List Target) → AllHave IsFit (questions_of ns.decls defs ts)
  questions_fit [] = tt
  questions_fit (t ∷ ts) =
      all_append IsFit (defs_questions ns.decls (defs_from t 0 defs)) (questions_of ns.decls defs ts)
      (defs_fit (defs_from t 0 defs)
      (defs-all IsFitDef t 0 defs (all_each defs (λ d is same. def_fit d is) typed)))
      (questions_fit ts)

-- ---- a scope of a program

is_body : (ds : Decls) (n : ℕ) (scopes : List Scope) (bodies : List Body) → AreBodiesOf ds n scopes bodies → (k : ℕ)
    (scope : Scope) (body : Body) → slice_get scopes k ≡ Some scope → slice_get bodies k ≡ Some body
    → IsBodyOf ds (n + k) scope body
is_body ds n [] [] are k scope body here there = absurd (cc)
is_body ds n [] (b ∷ bodies) are k scope body here there = elim are [ ]
is_body ds n (s ∷ scopes) [] are k scope body here there = elim are [ ]
is_body ds n (s ∷ scopes) (b ∷ bodies) are zero scope body here there =
    subst (λ (x : Scope). IsBodyOf ds (n + 0) x body) (same_some s scope here)
    (subst (λ (x : Body). IsBodyOf ds (n + 0) s x) (same_some b body there)
    (subst (λ (m : ℕ). IsBodyOf ds m s b) (omega arith) are.0))
is_body ds n (s ∷ scopes) (b ∷ bodies) are (suc k) scope body here there =
    subst (λ (m : ℕ). IsBodyOf ds m scope body) (omega arith)
    (is_body ds (n + 1) scopes bodies are.1 k scope body here there)

module _ (program : Program) (few : AllHave (λ (e : Enumeration). length e.cases ≤ 128) program.decls.enumerations)
    (scope : ℕ) (decl : Scope) (body : Body) (decl_is : slice_get program.decls.scopes scope ≡ Some decl)
    (body_is : slice_get program.bodies scope ≡ Some body) where
  abbrev pub the_targets : List Target
  the_targets = targets_of program.decls scope decl.items body.order

  abbrev pub the_questions : List Question
  the_questions = questions_of program.decls body.defs the_targets

  -- the forest of the scope
  pub forest_is : (forest : List ForestTarget) → StandsFor program scope forest
      → forest ≡ forest_of body.defs the_targets
  forest_is forest stands =
      stands.2
      ∙ ap (λ (b : Body). forest_of b.defs (targets_of program.decls scope (scope_items program.decls scope) b.order))
      (same_some stands.0 body (sym stands.1 ∙ body_is))
      ∙ ap (λ (items : List ItemDecl). forest_of body.defs (targets_of program.decls scope items body.order))
      (ap items_in decl_is)

  pub each_forest : (forest seen : List ForestTarget) → StandsFor program scope forest → seen ≡ forest
      → AllHave (IsForestOf body.defs) seen
  each_forest forest seen stands same =
      subst (λ (fs : List ForestTarget). AllHave (IsForestOf body.defs) fs) (sym (same ∙ forest_is forest stands))
      (forest_each body.defs the_targets)

  pub targets_are : (forest seen : List ForestTarget) → StandsFor program scope forest → seen ≡ forest
      → targets_in seen ≡ the_targets
  targets_are forest seen stands same =
      ap targets_in (same ∙ forest_is forest stands) ∙ forest_targets body.defs the_targets

  pub sound_as : (forest : List ForestTarget) → IsTrue (are_low forest) → StandsFor program scope forest
      → ∥ IsWellFormed program.decls program.bodies program.scope_order ∥₁ → (terms : List Term) (atoms : List Atom)
      (targets : List TableTarget) → terms ≡ terms_of decl.items the_questions → atoms ≡ atoms_of the_questions
      → targets ≡ map (target_of program.decls decl.items body.defs the_questions) the_targets
      → IsTrue (is_sound terms atoms targets)
  sound_as forest low stands formed terms atoms targets terms_are atoms_are are =
      ∥∥₁_elim formed (Bool-set (is_sound terms atoms targets) true)
      (λ f. ap (λ (ts : List Term). is_sound ts atoms targets) terms_are
      ∙ ap (λ (xs : List Atom). is_sound (terms_of decl.items the_questions) xs targets) atoms_are
      ∙ ap (is_sound (terms_of decl.items the_questions) (atoms_of the_questions)) are
      ∙ table_sound program.decls decl.items body.defs the_targets
      (questions_fit (record { decls = program.decls; items = decl.items }) few scope body.defs
      (subst (λ (n : ℕ). IsBodyOf program.decls n decl body) (omega arith)
      (is_body program.decls 0 program.decls.scopes program.bodies f.bodies_are scope decl body decl_is body_is)).defs
      the_targets)
      (subst (λ (fs : List ForestTarget). are_low fs ≡ true) (forest_is forest stands) low))

  -- what was made of a scene is made of the scope
  pub record IsMadeOf (targets : List TableTarget) (terms : List Term) (atoms : List Atom) : Type 0 where
    pub terms_are : terms ≡ terms_of decl.items the_questions
    pub atoms_are : atoms ≡ atoms_of the_questions
    pub targets_made : targets ≡ map (target_of program.decls decl.items body.defs the_questions) the_targets

  pub made_of : (scene : TabledScope) (ts : List Target) (targets : List TableTarget) (terms : List Term)
      (atoms : List Atom)
      → IsSceneTable scene ts targets terms atoms → scene.decls.now ≡ program.decls → scene.items.now ≡ decl.items
      → scene.defs.now ≡ body.defs → ts ≡ the_targets → IsMadeOf targets terms atoms
  made_of scene ts targets terms atoms is decls items defs same = record {
    terms_are = is.terms_are ∙ ap (λ (xs : List ItemDecl). terms_of xs (scene_questions scene ts)) items
        ∙ ap (terms_of decl.items) questions;
    atoms_are = is.atoms_are ∙ ap atoms_of questions;
    targets_made = is.targets_are
        ∙ ap (λ (ds : Decls). map (target_of ds scene.items.now scene.defs.now (scene_questions scene ts)) ts) decls
        ∙ ap (λ (xs : List ItemDecl). map (target_of program.decls xs scene.defs.now (scene_questions scene ts)) ts)
        items
        ∙ ap (λ (ds : List Def). map (target_of program.decls decl.items ds (scene_questions scene ts)) ts) defs
        ∙ ap (λ (qs : List Question). map (target_of program.decls decl.items body.defs qs) ts) questions
        ∙ ap (map (target_of program.decls decl.items body.defs the_questions)) same;
  }
    where
      questions : scene_questions scene ts ≡ the_questions
      questions =
          ap (λ (ds : Decls). questions_of ds scene.defs.now ts) decls
          ∙ ap (λ (ds : List Def). questions_of program.decls ds ts) defs
          ∙ ap (questions_of program.decls body.defs) same

  pub tables : (table : Table) → table.scope ≡ scope → table.name ≡ decl.name
      → table.terms ≡ terms_of decl.items the_questions → table.atoms ≡ atoms_of the_questions
      → table.targets ≡ map (target_of program.decls decl.items body.defs the_questions) the_targets
      → TablesScope program scope table
  tables table scope_is name_is terms_are atoms_are are = (
    decl,
    body,
    decl_is,
    body_is,
    record {
      scope_is = scope_is;
      name_is = name_is;
      terms_are = terms_are;
      atoms_are = atoms_are;
      targets_are = are;
    },
  )
