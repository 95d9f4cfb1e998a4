-- What the table of a plain scope has: free terms alone, and no function.
use Rattle.std.proofs.Common.{◌≡◌, ℕ, Bool, true, false, not, ◌&&◌, IsTrue, List, [], ◌∷◌, map, Option, Some, None}
use Rattle.std.proofs.Common.{slice_get, refl, sym, ◌∙◌, subst, true≢false}
use Rattle.cat_value.specs.declared.decls.Decls.{Decls}
use Rattle.cat_value.specs.declared.declaration.ItemDecl.{ItemDecl}
use Rattle.cat_value.specs.declared.declaration.Scope.{Scope}
use Rattle.cat_value.specs.declared.outcome.Target.{Target}
use Rattle.cat_scope.specs.declared.defs.Body.{Body}
use Rattle.cat_scope.specs.declared.defs.Def.{Def}
use Rattle.cat_scope.specs.declared.programs.Program.{Program}
use Rattle.cat_scope.specs.Forests.{targets_of}
use Rattle.cat_scope.specs.Groups.{Numbered}
use Rattle.cat_scope.specs.Names.{AllHave, has_none, is_called}
use Rattle.cat_scope.specs.Names as names
use Rattle.cat_scope.specs.Targets.{defs_from, same_target}
use Rattle.cat_sound.proofs.Exported.{defs-all, same_some}
use Rattle.cat_guard.specs.declared.table.Table.{Table}
use Rattle.cat_guard.specs.declared.table.TableTarget.{TableTarget}
use Rattle.cat_guard.specs.Formulas.{asked}
use Rattle.cat_guard.specs.Numbering.{firsts}
use Rattle.cat_guard.specs.Questions.{Question}
use Rattle.cat_guard.specs.Tables.{TablesScope, def_formula, defs_questions, is_function, questions_of, target_of}
use Rattle.cat_guard.specs.Terms.{same_term, term_of, terms_of}
use Rattle.cat_audit_sound.proofs.Exported.{all_at}
use Rattle.cat_audit_sound.specs.Shown.{IsFree}
use Rattle.cat_audit.specs.Plain.{HasFreeTerms, IsPlain, IsPlainBody}
use Rattle.cat_audit.proofs.Lists.{all_as, all_mapped, all_so}
use Rattle.cat_scope.proofs.Exported.{all_append}
use Rattle.cat_guard.proofs.Exported.{firsts_all}

-- ---- terms

module _ (ds : Decls) (items : List ItemDecl) (defs : List Def) (free : AllHave (HasFreeTerms ds items) defs) where
  abbrev Asks : Question → Type 0
  Asks q = IsFree (term_of items q)

  of_defs : (ns : List Numbered) → AllHave (λ (d : Numbered). HasFreeTerms ds items d.1) ns
      → AllHave Asks (defs_questions ds ns)
  of_defs [] h = tt
  of_defs (d ∷ ns) h = all_append Asks (asked (def_formula ds d.1)) (defs_questions ds ns) h.0 (of_defs ns h.1)

  of_target : (t : Target) → AllHave Asks (defs_questions ds (defs_from t 0 defs))
  of_target t = of_defs (defs_from t 0 defs)
      (defs-all (HasFreeTerms ds items) t 0 defs
      (all_as (HasFreeTerms ds items) (λ d. IsTrue (same_target d.target t) → HasFreeTerms ds items d) defs
      (λ d h same. h) free))

  of_targets : (ts : List Target) → AllHave Asks (questions_of ds defs ts)
  of_targets [] = tt
  of_targets (t ∷ ts) =
      all_append Asks (defs_questions ds (defs_from t 0 defs)) (questions_of ds defs ts) (of_target t) (of_targets ts)

  terms_free : (ts : List Target) → AllHave IsFree (terms_of items (questions_of ds defs ts))
  terms_free ts = all_mapped (term_of items) IsFree (firsts same_term [] (questions_of ds defs ts))
      (firsts_all Asks same_term [] (questions_of ds defs ts) (of_targets ts))

-- ---- targets

-- an item that is no called scope and no function has no parameters
no_params : (called : Bool) (none : Bool) → called ≡ false → (not called && not none) ≡ false → not none ≡ false
no_params true none e h = absurd (true≢false e)
no_params false none e h = h

not_function : (o : Option ItemDecl) (inner : Option ℕ)
    → ((item : ItemDecl) → o ≡ Some item → not (has_none item.params) ≡ false) → is_function o inner ≡ false
not_function None inner h = refl
not_function (Some item) None h = h item refl
not_function (Some item) (Some n) h = refl

module _ (ds : Decls) (items : List ItemDecl) (body : Body) (plain : IsPlainBody ds items body) where
  item_params : (n : ℕ) (item : ItemDecl) → slice_get items n ≡ Some item → not (has_none item.params) ≡ false
  item_params n item at = no_params (is_called item.kind) (has_none item.params)
      (all_at (λ (i : ItemDecl). is_called i.kind ≡ false) items n item plain.no_called_scope at)
      (all_at (λ (i : ItemDecl). names.is_function i ≡ false) items n item plain.no_function at)

  no_functions : (qs : List Question) (ts : List Target)
      → AllHave (λ (t : TableTarget). t.function ≡ false) (map (target_of ds items body.defs qs) ts)
  no_functions qs ts = all_mapped (target_of ds items body.defs qs) (λ (t : TableTarget). t.function ≡ false) ts
      (all_so (λ (t : Target). is_function (slice_get items t.item) t.inner ≡ false) ts
      (λ t. not_function (slice_get items t.item) t.inner (item_params t.item)))

-- ---- the table

module _ (program : Program) (scope : ℕ) (plain : IsPlain program scope) (table : Table)
    (tabled : TablesScope program scope table) where
  same_body : IsPlainBody program.decls tabled.0.items tabled.1
  same_body =
      let one : plain.0 ≡ tabled.0 = same_some plain.0 tabled.0 (sym plain.2 ∙ tabled.2) in
      let two : plain.1 ≡ tabled.1 = same_some plain.1 tabled.1 (sym plain.3 ∙ tabled.3) in
      subst (λ (d : Scope). IsPlainBody program.decls d.items tabled.1) one
      (subst (IsPlainBody program.decls plain.0.items) two plain.4)

  abbrev targets : List Target
  targets = targets_of program.decls scope tabled.0.items tabled.1.order

  abbrev questions : List Question
  questions = questions_of program.decls tabled.1.defs targets

  pub free_terms : AllHave IsFree table.terms
  free_terms = subst (AllHave IsFree) (sym tabled.4.terms_are)
      (terms_free program.decls tabled.0.items tabled.1.defs same_body.free targets)

  pub no_function_targets : AllHave (λ (t : TableTarget). t.function ≡ false) table.targets
  no_function_targets = subst (AllHave (λ (t : TableTarget). t.function ≡ false)) (sym tabled.4.targets_are)
      (no_functions program.decls tabled.0.items tabled.1 same_body questions targets)
