-- A guard has at the points of terms the truth that the formula of its definition has by what expressions come to.
use Rattle.std.proofs.Common.{◌≡◌, inl, inr, ℕ, Bool, true, IsTrue, List, [], ◌∷◌, length, Option, ap, ◌∙◌, subst}
use Rattle.cat_value.specs.declared.ty.Ty.{Ty}
use Rattle.cat_value.specs.declared.decls.Decls.{Decls}
use Rattle.cat_value.specs.declared.outcome.Target.{Target}
use Rattle.cat_region.specs.Points.{answer}
use Rattle.cat_scope.specs.declared.defs.Def.{Def}
use Rattle.cat_scope.specs.Names.{Names, AllHave, IsOneOf}
use Rattle.cat_scope.specs.Naming.{IsTargetAt}
use Rattle.cat_scope.specs.WellFormed.{DefTyped}
use Rattle.cat_scope.specs.Groups.{Numbered}
use Rattle.cat_scope.specs.Same.{Standing}
use Rattle.cat_scope.specs.Targets.{same_target, defs_from}
use Rattle.cat_scope.specs.Eval.{Env, eval}
use Rattle.cat_sound.proofs.Exported.{one_back, one_front}
use Rattle.cat_guard.specs.Formulas.{truth, asked, renamed}
use Rattle.cat_guard.specs.GuardFormulas.{formula_of}
use Rattle.cat_guard.specs.PointValues.{point_at}
use Rattle.cat_guard.specs.Questions.{Question}
use Rattle.cat_guard.specs.Terms.{same_term, terms_of, atoms_of, atom_number}
use Rattle.cat_guard.specs.Tables.{standing_of, def_formula, defs_questions, questions_of, guard_def}
use Rattle.cat_guard.specs.Valuations.{holds_at}
use Rattle.cat_guard.proofs.Exported.{all_and, formula_of_guard_tree, truth_renamed, truth_same}
use Rattle.cat_audit_sound.specs.Evaluations.{answered, any_values}
use Rattle.cat_audit_sound.proofs.AtomAnswers.{IsOfDef, targets_all}
use Rattle.cat_audit_sound.proofs.Lists.{among_all}
use Rattle.cat_audit_sound.proofs.Numbered.{all_are}
use Rattle.cat_audit_sound.proofs.OneQuestions.{condition_here}
use Rattle.cat_audit_sound.proofs.PointsOfTerms.{points_in, atom_is}
use Rattle.cat_audit_sound.proofs.StandingDefs.{target_of_def}

-- ---- questions of a definition among those of its scope

pub among_defs : (ds : Decls) (xs : List Numbered) (d : Numbered) (q : Question) → IsOneOf d xs
    → IsOneOf q (asked (def_formula ds d.1)) → IsOneOf q (defs_questions ds xs)
among_defs ds [] d q among h = elim among [ ]
among_defs ds (x ∷ xs) d q (inl e) h =
    one_front q (asked (def_formula ds x.1)) (defs_questions ds xs)
    (subst (λ (y : Numbered). IsOneOf q (asked (def_formula ds y.1))) e h)
among_defs ds (x ∷ xs) d q (inr more) h =
    one_back q (asked (def_formula ds x.1)) (defs_questions ds xs) (among_defs ds xs d q more h)

pub among_targets : (ds : Decls) (defs : List Def) (targets : List Target) (t : Target) (q : Question)
    → IsOneOf t targets
    → IsOneOf q (defs_questions ds (defs_from t 0 defs)) → IsOneOf q (questions_of ds defs targets)
among_targets ds defs [] t q among h = elim among [ ]
among_targets ds defs (u ∷ targets) t q (inl e) h =
    one_front q (defs_questions ds (defs_from u 0 defs)) (questions_of ds defs targets)
    (subst (λ (x : Target). IsOneOf q (defs_questions ds (defs_from x 0 defs))) e h)
among_targets ds defs (u ∷ targets) t q (inr more) h =
    one_back q (defs_questions ds (defs_from u 0 defs)) (questions_of ds defs targets)
    (among_targets ds defs targets t q more h)

-- ---- guards

module _ (ns : Names) (scope : ℕ) (defs : List Def) (typed : AllHave (DefTyped ns scope) defs)
    (targets : List Target) (env : Env) (self : (q : Question) → same_term q q ≡ true) where
  abbrev qs : List Question
  qs = questions_of ns.decls defs targets

  abbrev holds : ℕ → Bool
  holds = holds_at (atoms_of qs) (points_in env (terms_of ns.items qs))

  module _ (item : ℕ) (inner : Option ℕ) (t : Ty) (target : IsTargetAt ns item inner [] t)
      (listed : IsOneOf (record { scope = scope; item = item; inner = inner }) targets) (d : Numbered)
      (same : IsTrue (same_target d.1.target (record { scope = scope; item = item; inner = inner })))
      (among : IsOneOf d (defs_from (record { scope = scope; item = item; inner = inner }) 0 defs))
      (is : DefTyped ns scope d.1) where
    abbrev here : Target
    here = record { scope = scope; item = item; inner = inner }

    none : d.1.params ≡ 0
    none = is.counted ∙ ap length (target_of_def ns scope item inner [] t d.1 target is same).0

    each : (q : Question) → q.standing ≡ standing_of d.1 → IsOneOf q (asked (def_formula ns.decls d.1))
        → holds (atom_number qs q) ≡ answered (λ e. (eval env e []).end) q
    each q standing asks =
        let inside = among_targets ns.decls defs targets here q listed
        (among_defs ns.decls (defs_from here 0 defs) d q among asks) in
        atom_is ns scope defs typed targets env self q inside
        (among_all (IsOfDef ns scope defs typed targets) qs q (targets_all ns scope defs typed targets targets)
        inside)
        ∙ ap (λ (n : ℕ). answer q.cut (point_at q.dim (eval env q.expr (any_values n)).end))
        (ap (λ (g : Standing). g.params) standing ∙ none)

    -- the answers of a definition's atoms
    answers_are : AllHave (λ q. holds (atom_number qs q) ≡ answered (λ e. (eval env e []).end) q)
        (asked (def_formula ns.decls d.1))
    answers_are =
        all_and (λ q. q.standing ≡ standing_of d.1) (λ q. IsOneOf q (asked (def_formula ns.decls d.1)))
        (λ q. holds (atom_number qs q) ≡ answered (λ e. (eval env e []).end) q) (asked (def_formula ns.decls d.1))
        (condition_here ns.decls (standing_of d.1) d.1.condition) (all_are (asked (def_formula ns.decls d.1))) each

    pub guard_holds : truth holds (formula_of (guard_def ns.decls qs d).guard)
        ≡ truth (answered (λ e. (eval env e []).end)) (def_formula ns.decls d.1)
    guard_holds =
        ap (truth holds) (formula_of_guard_tree (renamed (atom_number qs) (def_formula ns.decls d.1)))
        ∙ truth_renamed (atom_number qs) holds (def_formula ns.decls d.1)
        ∙ truth_same (λ q. holds (atom_number qs q)) (answered (λ e. (eval env e []).end)) (def_formula ns.decls d.1)
        answers_are
