-- The code of a term adds what the term comes to, where its conditions and consequences do what they mean.
use Rattle.std.proofs.Common.{◌≡◌, ℕ, List, [], ◌∷◌, ◌++◌, map, Some, refl, sym, subst, slice_get}
use Rattle.cat_value.specs.declared.value.Value.{Value}
use Rattle.cat_scope.specs.declared.expr.Expr.{Expr}
use Rattle.cat_scope.specs.Runs.{Run}
use Rattle.cat_scope.specs.Judging.{Held, Judged, holding}
use Rattle.cat_scope.specs.Names.{AllHave}
use Rattle.cat_scope.specs.Calls.{Items}
use Rattle.cat_scope.proofs.Exported.{Each}
use Rattle.cat_calc.specs.declared.term.Justification.{Justification}
use Rattle.cat_calc.specs.declared.term.DefaultTerm.{DefaultTerm}
use Rattle.cat_calc.specs.declared.term.DefaultTerm.TheViews as term
use Rattle.cat_calc.specs.Terms.{all_in, condition_in, conditions_in, consequences_in}
use Rattle.cat_calc.specs.Reducing.{reduced}
use Rattle.cat_sound.proofs.Exported.{all_back, all_front}
use Rattle.cat_calc.proofs.Exported.{reduced_Empty, reduced_Consequence, reduced_Default, induction}
use Rattle.cat_calc.proofs.Exported.{conditions_Default, consequences_Consequence, consequences_Default}
use Rattle.cat_code.specs.declared.instr.Instr.{Instr}
use Rattle.cat_code.specs.declared.code.TargetEntry.{TargetEntry}
use Rattle.cat_code.specs.declared.code.Tables.{Tables}
use Rattle.cat_lower.specs.Laying.{Coded, all_code}
use Rattle.cat_lower.specs.Terms.{TermStanding, value_code, term_code}
use Rattle.cat_lower.proofs.TermEquations.{code_Empty, code_Consequence, code_Default}
use Rattle.cat_lower.proofs.Adding.{Adds, AddsAll, adds_nothing, holds, none_added, more_added, ConditionDoes}
use Rattle.cat_lower.proofs.Adding.{ConsequenceDoes, defaults}

-- what holds of all in some lists holds of all in each
pub each_of : {A B : Type 0} (P : B → Type 0) (f : A → List B) (xs : List A) → AllHave P (all_in (map f xs))
    → Each (λ x. AllHave P (f x)) xs
each_of P f [] h = tt
each_of P f (x ∷ xs) h =
    (all_front P (f x) (all_in (map f xs)) h, each_of P f xs (all_back P (f x) (all_in (map f xs)) h))

module _ (tables : Tables) (code : List Instr) (items : Items) (locals : List Value) (at : TermStanding)
    (entry : TargetEntry)
    (there : slice_get tables.targets at.target ≡ Some entry) (value : Expr → Run Value) where
  abbrev pub base : ℕ
  base = at.here.definitions

  abbrev pub C : Expr → Type 0
  C e = ConditionDoes tables code items locals base at refl entry there value e

  abbrev pub V : Held Expr → Type 0
  V h = ConsequenceDoes tables code items locals base at refl entry there value h

  -- what a term adds, where its expressions do what they mean
  abbrev OfTerm : DefaultTerm → Type 0
  OfTerm t = AllHave C (conditions_in t) → AllHave V (consequences_in t)
      → Adds tables code items locals base (reduced value entry.target t) (term_code at t)

  term_alike : (j j' : Judged Value) (a a' : Coded) → a ≡ a' → j ≡ j' → Adds tables code items locals base j' a'
      → Adds tables code items locals base j a
  term_alike j j' a a' e same d =
      subst (λ x. Adds tables code items locals base x a) (sym same)
      (subst (λ x. Adds tables code items locals base j' x) (sym e) d)

  all_add : (ts : List DefaultTerm)
      → Each (λ t. Adds tables code items locals base (reduced value entry.target t) (term_code at t)) ts
      → AddsAll tables code items locals base (holding (map (reduced value entry.target) ts))
      (all_code (map (term_code at) ts))
  all_add [] h = none_added tables code items locals base
  all_add (t ∷ ts) h =
      more_added tables code items locals base (reduced value entry.target t)
      (holding (map (reduced value entry.target) ts))
      (term_code at t) (all_code (map (term_code at) ts)) h.0 (all_add ts h.1)

  both : (ts : List DefaultTerm) → Each OfTerm ts → Each (λ t. AllHave C (conditions_in t)) ts
      → Each (λ t. AllHave V (consequences_in t)) ts
      → Each (λ t. Adds tables code items locals base (reduced value entry.target t) (term_code at t)) ts
  both [] h c v = tt
  both (t ∷ ts) h c v = (h.0 c.0 v.0, both ts h.1 c.1 v.1)

  of_default : (ts : List DefaultTerm) (j : Justification) (t : DefaultTerm) → Each OfTerm ts → OfTerm t
      → OfTerm (term.Default ts j t)
  of_default ts j t hs h cs vs =
      let c = subst (λ (l : List Expr). AllHave C l) (conditions_Default ts j t) cs in
      let w = subst (λ (l : List (Held Expr)). AllHave V l) (consequences_Default ts j t) vs in
      let front = all_front C (all_in (map conditions_in ts) ++ condition_in j) (conditions_in t) c in
      let each =
      both ts hs (each_of C conditions_in ts (all_front C (all_in (map conditions_in ts)) (condition_in j) front))
      (each_of V consequences_in ts (all_front V (all_in (map consequences_in ts)) (consequences_in t) w)) in
      term_alike _ _ _ _ (code_Default at ts j t) (reduced_Default value entry.target ts j t)
      (defaults tables code items locals base at refl entry there value ts j
      (all_back C (all_in (map conditions_in ts)) (condition_in j) front) (reduced value entry.target t)
      (term_code at t)
      each (all_add ts each)
      (h (all_back C (all_in (map conditions_in ts) ++ condition_in j) (conditions_in t) c)
      (all_back V (all_in (map consequences_in ts)) (consequences_in t) w)))

  pub of_term : (t : DefaultTerm) → OfTerm t
  of_term = induction OfTerm
      (λ cs vs. term_alike _ _ _ _ (code_Empty at) (reduced_Empty value entry.target)
      (adds_nothing tables code items locals base))
      (λ n p e cs vs.
      let v = subst (λ (l : List (Held Expr)). AllHave V l) (consequences_Consequence n p e) vs in
      term_alike _ _ _ _ (code_Consequence at n p e) (reduced_Consequence value entry.target n p e)
      (holds tables code items locals base n p (value e) (value_code at e) v.0.placed v.0.does))
      of_default
