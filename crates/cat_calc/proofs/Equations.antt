-- The equations of a term, one a variant, and induction over terms.
use Rattle.std.proofs.Common.{◌≡◌, ℕ, List, [], ◌∷◌, ◌++◌, map, None, Some, rules, subst}
use Rattle.cat_pos.specs.declared.pos.Pos.{Pos}
use Rattle.cat_value.specs.declared.value.Value.{Value}
use Rattle.cat_value.specs.declared.outcome.Target.{Target}
use Rattle.cat_scope.specs.declared.expr.Expr.{Expr}
use Rattle.cat_scope.specs.Runs.{Run, gives, and_then}
use Rattle.cat_scope.specs.Judging.{Held, Judged, settle, or_else}
use Rattle.cat_scope.proofs.Exported.{Each}
use Rattle.cat_calc.specs.declared.term.Justification.{Justification}
use Rattle.cat_calc.specs.declared.term.DefaultTerm.{DefaultTerm}
use Rattle.cat_calc.specs.declared.term.DefaultTerm.TheVariants as leaf
use Rattle.cat_calc.specs.declared.term.DefaultTerm.TheViews as term
use Rattle.cat_calc.specs.declared.term.DefaultTerm.TheViews.{roll-DefaultTerm}
use Rattle.cat_calc.specs.declared.term.DefaultTerm.TheOpen.{DefaultTerm-F}
use Rattle.cat_calc.specs.declared.term.DefaultTerm.TheFolds.{fold_out-DefaultTerm, ind-DefaultTerm, map-DefaultTerm}
use Rattle.cat_calc.specs.Terms.{all_in, condition_in, conditions_by, conditions_in, consequences_by, consequences_in}
use Rattle.cat_calc.specs.Reducing.{justified, reduced_by, reduced}
use denote.Hole.Carrier.{roll}

pub reduced_Empty : (value : Expr → Run Value) (target : Target) → reduced value target leaf.Empty ≡ gives None
unfolding reduced
reduced_Empty value target =
    search (rules, term.the_lemmas, fold_out-DefaultTerm (Judged Value) (reduced_by value target))

pub reduced_Consequence : (value : Expr → Run Value) (target : Target) (number : ℕ) (p : Pos) (e : Expr)
    → reduced value target (leaf.Consequence number p e)
    ≡ and_then (value e) (λ v. gives (Some (record { number = number; pos = p; value = v })))
unfolding reduced
reduced_Consequence value target number p e =
    search (rules, term.the_lemmas, fold_out-DefaultTerm (Judged Value) (reduced_by value target))

pub reduced_Default : (value : Expr → Run Value) (target : Target) (exceptions : List DefaultTerm) (j : Justification)
    (consequence : DefaultTerm) → reduced value target (term.Default exceptions j consequence)
    ≡ or_else (settle target (map (reduced value target) exceptions))
    (justified value j (reduced value target consequence))
unfolding reduced
reduced_Default value target exceptions j consequence =
    search (rules, term.the_lemmas, fold_out-DefaultTerm (Judged Value) (reduced_by value target))

pub conditions_Empty : conditions_in leaf.Empty ≡ []
unfolding conditions_in
conditions_Empty = search (rules, term.the_lemmas, fold_out-DefaultTerm (List Expr) conditions_by)

pub conditions_Consequence : (number : ℕ) (p : Pos) (e : Expr) → conditions_in (leaf.Consequence number p e) ≡ []
unfolding conditions_in
conditions_Consequence number p e = search (rules, term.the_lemmas, fold_out-DefaultTerm (List Expr) conditions_by)

pub conditions_Default : (exceptions : List DefaultTerm) (j : Justification) (consequence : DefaultTerm)
    → conditions_in (term.Default exceptions j consequence)
    ≡ all_in (map conditions_in exceptions) ++ condition_in j ++ conditions_in consequence
unfolding conditions_in
conditions_Default exceptions j consequence =
    search (rules, term.the_lemmas, fold_out-DefaultTerm (List Expr) conditions_by)

pub consequences_Empty : consequences_in leaf.Empty ≡ []
unfolding consequences_in
consequences_Empty = search (rules, term.the_lemmas, fold_out-DefaultTerm (List (Held Expr)) consequences_by)

pub consequences_Consequence : (number : ℕ) (p : Pos) (e : Expr)
    → consequences_in (leaf.Consequence number p e) ≡ record { number = number; pos = p; value = e } ∷ []
unfolding consequences_in
consequences_Consequence number p e =
    search (rules, term.the_lemmas, fold_out-DefaultTerm (List (Held Expr)) consequences_by)

pub consequences_Default : (exceptions : List DefaultTerm) (j : Justification) (consequence : DefaultTerm)
    → consequences_in (term.Default exceptions j consequence)
    ≡ all_in (map consequences_in exceptions) ++ consequences_in consequence
unfolding consequences_in
consequences_Default exceptions j consequence =
    search (rules, term.the_lemmas, fold_out-DefaultTerm (List (Held Expr)) consequences_by)

pub ruleset reductions = (reduced_Empty, reduced_Consequence, reduced_Default)

held : {A : Type 0} (P : A → Type 0) (ys : List ((x : A) × P x)) → Each P (map (λ y. y.0) ys)
held P [] = tt
held P (y ∷ ys) = (y.1, held P ys)

module _
    (P : DefaultTerm → Type 0)
    (on_empty : P leaf.Empty)
    (on_consequence : (number : ℕ) (p : Pos) (e : Expr) → P (leaf.Consequence number p e))
    (on_default : (exceptions : List DefaultTerm) (j : Justification) (consequence : DefaultTerm) → Each P exceptions → P consequence
    → P (term.Default exceptions j consequence)) where
  at : (y : DefaultTerm-F ((t : DefaultTerm) × P t)) → P (roll-DefaultTerm (map-DefaultTerm ((t : DefaultTerm) × P t) DefaultTerm (λ t. t.0) y))
  unfolding roll-DefaultTerm roll
  at DefaultTerm-F.Empty = on_empty
  at (DefaultTerm-F.Consequence number p e) = on_consequence number p e
  at (DefaultTerm-F.Default exceptions j consequence) =
      on_default (map (λ t. t.0) exceptions) j consequence.0 (held P exceptions) consequence.1

  -- a property that each form has where its parts have it
  pub induction : (t : DefaultTerm) → P t
  induction = ind-DefaultTerm P (λ x y is. subst (λ z. P (roll-DefaultTerm z)) is (at y))
