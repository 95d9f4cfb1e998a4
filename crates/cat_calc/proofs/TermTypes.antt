-- A term whose conditions and consequences end in values of their types comes to one of its type, to nothing, or to a
-- stop that an outcome may be.
use Rattle.std.proofs.Common.{ℕ, true, IsTrue, List, [], ◌∷◌, ◌++◌, map, None, refl, subst}
use Rattle.cat_pos.specs.declared.pos.Pos.{Pos}
use Rattle.cat_value.specs.declared.ty.Ty.{Ty}
use Rattle.cat_value.specs.declared.ty.Ty.TheVariants as flat_ty
use Rattle.cat_value.specs.declared.value.Value.{Value}
use Rattle.cat_value.specs.declared.decls.Decls.{Decls}
use Rattle.cat_value.specs.declared.outcome.Target.{Target}
use Rattle.cat_scope.specs.declared.expr.Expr.{Expr}
use Rattle.cat_scope.specs.Names.{AllHave}
use Rattle.cat_scope.specs.Runs.{Run, gives}
use Rattle.cat_scope.specs.Judging.{Held, Judged, settle}
use Rattle.cat_scope.proofs.Exported.{Each}
use Rattle.cat_sound.specs.Endings.{Allowed, EndsIn, IsOf}
use Rattle.cat_sound.specs.Settled.{IsHeldOf}
use Rattle.cat_sound.proofs.Exported.{all_front, all_back, ends_as, ends_choose, ends_then, or_else-ends, settle-ends}
use Rattle.cat_calc.specs.declared.term.Justification.{Justification}
use Rattle.cat_calc.specs.declared.term.Justification.TheVariants as justification
use Rattle.cat_calc.specs.declared.term.DefaultTerm.{DefaultTerm}
use Rattle.cat_calc.specs.declared.term.DefaultTerm.TheVariants as leaf
use Rattle.cat_calc.specs.declared.term.DefaultTerm.TheViews as term
use Rattle.cat_calc.specs.Terms.{all_in, condition_in, conditions_in, consequences_in}
use Rattle.cat_calc.specs.Reducing.{justified, reduced}
use Rattle.cat_calc.proofs.Equations.{reduced_Empty, reduced_Consequence, reduced_Default, conditions_Default}
use Rattle.cat_calc.proofs.Equations.{consequences_Consequence, consequences_Default, induction}

-- what holds in all lists holds in each
pub all_parts : {A B : Type 0} (P : B → Type 0) (f : A → List B) (xs : List A) → AllHave P (all_in (map f xs))
    → AllHave (λ x. AllHave P (f x)) xs
all_parts P f [] h = tt
all_parts P f (x ∷ xs) h =
    (all_front P (f x) (all_in (map f xs)) h, all_parts P f xs (all_back P (f x) (all_in (map f xs)) h))

module _ (allowed : Allowed) (ds : Decls) (t : Ty) (value : Expr → Run Value) (target : Target)
    (free : IsTrue (allowed.may_stop target)) where
  abbrev ConditionEnds : Expr → Type 0
  ConditionEnds e = EndsIn allowed (IsOf ds flat_ty.Boolean) (value e)

  abbrev ConsequenceEnds : Held Expr → Type 0
  ConsequenceEnds h = EndsIn allowed (IsOf ds t) (value h.value)

  abbrev JudgedOf : Judged Value → Type 0
  JudgedOf judged = EndsIn allowed (IsHeldOf true ds t) judged

  abbrev Reduces : DefaultTerm → Type 0
  Reduces one =
      AllHave ConditionEnds (conditions_in one) → AllHave ConsequenceEnds (consequences_in one)
      → JudgedOf (reduced value target one)

  each_ends : (exceptions : List DefaultTerm) → Each Reduces exceptions
      → AllHave (λ e. AllHave ConditionEnds (conditions_in e)) exceptions
      → AllHave (λ e. AllHave ConsequenceEnds (consequences_in e)) exceptions
      → AllHave JudgedOf (map (reduced value target) exceptions)
  each_ends [] each conditions consequences = tt
  each_ends (e ∷ es) each conditions consequences =
      (each.0 conditions.0 consequences.0, each_ends es each.1 conditions.1 consequences.1)

  justified-ends : (j : Justification) (consequence : Judged Value) → AllHave ConditionEnds (condition_in j)
      → JudgedOf consequence → JudgedOf (justified value j consequence)
  justified-ends justification.Never consequence h is = (tt, refl)
  justified-ends justification.Always consequence h is = is
  justified-ends (justification.Where e) consequence h is =
      ends_then allowed (IsOf ds flat_ty.Boolean) (IsHeldOf true ds t) (value e) _ h.0
      (λ c hc. ends_choose allowed (IsHeldOf true ds t) ds c consequence (gives None) hc is (tt, refl))

  on_default : (exceptions : List DefaultTerm) (j : Justification) (consequence : DefaultTerm) → Each Reduces exceptions
      → Reduces consequence → Reduces (term.Default exceptions j consequence)
  on_default exceptions j consequence each is h g =
      let conditions = subst (λ (es : List Expr). AllHave ConditionEnds es)
      (conditions_Default exceptions j consequence) h in
      let consequences = subst (λ (hs : List (Held Expr)). AllHave ConsequenceEnds hs)
      (consequences_Default exceptions j consequence) g in
      let first = all_front ConditionEnds (all_in (map conditions_in exceptions) ++ condition_in j)
      (conditions_in consequence) conditions in
      ends_as allowed (IsHeldOf true ds t) (reduced value target (term.Default exceptions j consequence)) _
      (reduced_Default value target exceptions j consequence)
      (or_else-ends allowed ds t (settle target (map (reduced value target) exceptions))
      (justified value j (reduced value target consequence))
      (settle-ends allowed ds t target free (map (reduced value target) exceptions)
      (each_ends exceptions each
      (all_parts ConditionEnds conditions_in exceptions
      (all_front ConditionEnds (all_in (map conditions_in exceptions)) (condition_in j) first))
      (all_parts ConsequenceEnds consequences_in exceptions
      (all_front ConsequenceEnds (all_in (map consequences_in exceptions)) (consequences_in consequence)
      consequences))))
      (justified-ends j (reduced value target consequence)
      (all_back ConditionEnds (all_in (map conditions_in exceptions)) (condition_in j) first)
      (is
      (all_back ConditionEnds (all_in (map conditions_in exceptions) ++ condition_in j) (conditions_in consequence)
      conditions)
      (all_back ConsequenceEnds (all_in (map consequences_in exceptions)) (consequences_in consequence)
      consequences))))

  on_consequence : (number : ℕ) (p : Pos) (e : Expr) → Reduces (leaf.Consequence number p e)
  on_consequence number p e h g =
      let ends = subst (λ (hs : List (Held Expr)). AllHave ConsequenceEnds hs) (consequences_Consequence number p e) g
      in
      ends_as allowed (IsHeldOf true ds t) (reduced value target (leaf.Consequence number p e)) _
      (reduced_Consequence value target number p e)
      (ends_then allowed (IsOf ds t) (IsHeldOf true ds t) (value e) _ ends.0 (λ v hv. (tt, hv)))

  pub reduced-ends : (one : DefaultTerm) → Reduces one
  reduced-ends =
      induction Reduces
      (λ h g. ends_as allowed (IsHeldOf true ds t) (reduced value target leaf.Empty) (gives None)
      (reduced_Empty value target) (tt, refl))
      on_consequence on_default
