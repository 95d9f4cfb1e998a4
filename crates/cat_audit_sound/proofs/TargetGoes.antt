-- Where the judging of a target of a scope comes to something, the target of its table does so by the points of terms.
use Rattle.std.proofs.Common.{◌≡◌, ℕ, Bool, true, IsTrue, List, [], Option}
use Rattle.std.proofs.Common.{Some, None, sym, ap, ◌∙◌}
use Rattle.cat_value.specs.declared.ty.Ty.{Ty}
use Rattle.cat_value.specs.declared.ty.Ty.TheVariants as flat_ty
use Rattle.cat_value.specs.declared.value.Value.{Value}
use Rattle.cat_value.specs.declared.value.Value.TheViews as value
use Rattle.cat_value.specs.declared.outcome.Target.{Target}
use Rattle.cat_scope.specs.declared.expr.Expr.{Expr}
use Rattle.cat_scope.specs.declared.defs.Def.{Def}
use Rattle.cat_scope.specs.Runs.{Run}
use Rattle.cat_scope.specs.Names.{Names, AllHave, IsOneOf}
use Rattle.cat_scope.specs.Projections as read
use Rattle.cat_scope.specs.HasType.{HasType}
use Rattle.cat_scope.specs.Naming.{IsTargetAt}
use Rattle.cat_scope.specs.WellFormed.{ConditionTyped, DefTyped}
use Rattle.cat_scope.specs.Groups.{Numbered}
use Rattle.cat_scope.specs.Same.{Standing}
use Rattle.cat_scope.specs.Targets.{same_target, defs_from, condition_of, judge_target}
use Rattle.cat_scope.specs.Eval.{Env, eval}
use Rattle.cat_sound.specs.Endings.{Allowed, AreOf, IsEnvOf}
use Rattle.cat_sound.specs.Settled.{InCondition, StandsIn}
use Rattle.cat_sound.proofs.Exported.{anything, defs-all}
use Rattle.cat_guard.specs.Formulas.{truth}
use Rattle.cat_guard.specs.GuardFormulas.{formula_of}
use Rattle.cat_guard.specs.Questions.{Question, guard_of, condition_guard}
use Rattle.cat_guard.specs.Terms.{same_term, terms_of, atoms_of}
use Rattle.cat_guard.specs.Tables.{standing_of, questions_of, guard_def, target_of}
use Rattle.cat_guard.specs.TableJudging.{decided}
use Rattle.cat_guard.specs.Valuations.{holds_at}
use Rattle.cat_guard.proofs.Exported.{IsSoundTarget, all_and, same_bool}
use Rattle.cat_audit_sound.specs.Evaluations.{answered, says, told}
use Rattle.cat_audit_sound.proofs.ListsGo as ends
use Rattle.cat_audit_sound.proofs.ListsGo.{def_goes}
use Rattle.cat_audit_sound.proofs.GuardAnswers.{guard_holds}
use Rattle.cat_audit_sound.proofs.Numbered.{all_are}
use Rattle.cat_audit_sound.proofs.PointsOfTerms.{points_in}
use Rattle.cat_audit_sound.proofs.TableGoes.{DefGoes, target_goes}

-- a condition that gives a truth value gives that of its guard
abbrev pub GuardsTell : Type 0
GuardsTell =
    (allowed : Allowed) (ns : Names) (env : Env) (ps : List Ty) (arguments : List Value) (g : Standing) (e : Expr)
    (b : Bool) → AreOf ns.decls ps arguments → HasType ns ps e flat_ty.Boolean → IsEnvOf allowed ns env e
    → says (eval env e arguments).end ≡ Some b
    → truth (answered (λ x. (eval env x arguments).end)) (guard_of ns.decls g e) ≡ b

module _ (ns : Names) (scope : ℕ) (defs : List Def) (typed : AllHave (DefTyped ns scope) defs)
    (targets : List Target) (env : Env) (self : (q : Question) → same_term q q ≡ true) (tell : GuardsTell) where
  abbrev qs : List Question
  qs = questions_of ns.decls defs targets

  abbrev holds : ℕ → Bool
  holds = holds_at (atoms_of qs) (points_in env (terms_of ns.items qs))

  abbrev of : Expr → Run Value
  of e = eval env e []

  module _ (item : ℕ) (inner : Option ℕ) (t : Ty) (target : IsTargetAt ns item inner [] t)
      (listed : IsOneOf (record { scope = scope; item = item; inner = inner }) targets) where
    abbrev here : Target
    here = record { scope = scope; item = item; inner = inner }

    abbrev Stands : Def → Type 0
    Stands d = StandsIn anything ns env [] t d

    condition_tells : (g : Standing) (o : Option Expr) → ConditionTyped ns [] o
        → InCondition (IsEnvOf anything ns env) o
        → (b : Bool) → says (condition_of of o).end ≡ Some b
        → truth (answered (λ e. (of e).end)) (condition_guard ns.decls g o) ≡ b
    condition_tells g None is has b h =
        same_bool true b (sym (ap (λ y. told (read.truth_in y)) (value.outs-Boolean true)) ∙ h)
    condition_tells g (Some e) is has b h = tell anything ns env [] [] g e b tt is has h

    abbrev Ready : Def → Type 0
    Ready d = IsTrue (same_target d.target here) × Stands d × DefTyped ns scope d

    each_goes : (sound : IsSoundTarget (target_of ns.decls ns.items defs qs here)) → (d : Numbered) → Ready d.1
        → IsOneOf d (defs_from here 0 defs) → DefGoes ns.decls ns.items defs qs here of holds sound d
    each_goes sound d ready among =
        def_goes of d (truth holds (formula_of (guard_def ns.decls qs d).guard))
        (λ b h. guard_holds ns scope defs typed targets env self item inner t target listed d ready.0 among ready.2
        ∙ condition_tells (standing_of d.1) d.1.condition ready.1.condition ready.1.condition_env b h)

    pub target_along : IsSoundTarget (target_of ns.decls ns.items defs qs here)
        → AllHave (λ d. IsTrue (same_target d.target here) → Stands d) defs
        → ends.Goes (judge_target of here defs).end (decided (target_of ns.decls ns.items defs qs here) holds).end
    target_along sound stand =
        target_goes ns.decls ns.items defs qs here of holds sound
        (all_and (λ d. Ready d.1) (λ d. IsOneOf d (defs_from here 0 defs))
        (DefGoes ns.decls ns.items defs qs here of holds sound)
        (defs_from here 0 defs)
        (defs-all Ready here 0 defs
        (all_and (λ d. IsTrue (same_target d.target here) → Stands d) (DefTyped ns scope)
        (λ d. IsTrue (same_target d.target here) → Ready d) defs stand typed (λ d h k same. (same, h same, k))))
        (all_are (defs_from here 0 defs)) (each_goes sound))
