-- The code of terms has the files of the definitions of which they are made.
use Rattle.std.proofs.Common.{◌≡◌, ℕ, Bool, true, false, List, [], ◌∷◌, ◌++◌, map, Option, Some, None}
use Rattle.std.proofs.Common.{sym, subst, inl, inr, IfSome}
use Rattle.cat_pos.specs.declared.pos.Pos.{Pos}
use Rattle.cat_pos.specs.Position.{pos_file}
use Rattle.cat_value.specs.declared.ty.Ty.{Ty}
use Rattle.cat_scope.specs.declared.expr.Expr.{Expr}
use Rattle.cat_scope.specs.declared.defs.Def.{Def}
use Rattle.cat_scope.specs.Judging as judging
use Rattle.cat_scope.specs.Names.{AllHave, IsOneOf}
use Rattle.cat_scope.proofs.Exported.{Each}
use Rattle.cat_sound.proofs.Exported.{all_back, all_front}
use Rattle.cat_calc.specs.declared.term.Justification.{Justification}
use Rattle.cat_calc.specs.declared.term.Justification.TheVariants as justification
use Rattle.cat_calc.specs.declared.term.DefaultTerm.{DefaultTerm}
use Rattle.cat_calc.specs.declared.term.DefaultTerm.TheVariants as leaf
use Rattle.cat_calc.specs.declared.term.DefaultTerm.TheViews as term
use Rattle.cat_calc.specs.Desugared.{IsConditionOf, IsConsequenceOf, IsTermOf}
use Rattle.cat_calc.specs.Terms.{all_in, condition_in, conditions_in, consequences_in}
use Rattle.cat_calc.proofs.Exported as calculus
use Rattle.cat_code.specs.declared.instr.Instr.TheVariants as instr
use Rattle.cat_code.specs.declared.code.TargetEntry.{TargetEntry}
use Rattle.cat_lower.specs.Files.{files_in, DefFits}
use Rattle.cat_lower.specs.Laying.{Coded, one}
use Rattle.cat_lower.specs.Terms.{TermStanding, under, checked_code, otherwise, framed, default_code}
use Rattle.cat_lower.specs.Terms.{term_code, judged_code, without_value, target_code, context_code}
use Rattle.cat_lower.specs.Rows.{Standing}
use Rattle.cat_lower.proofs.TermEquations as equation
use Rattle.cat_lower.proofs.LaidFiles as laid
use Rattle.cat_lower.proofs.LaidFiles.{Fits}
use Rattle.cat_lower.proofs.LoweredFiles.{lowered_fits, each_on, each_mapped}

-- ---- lists

pub all_one : {A : Type 0} (P : A → Type 0) (xs : List A) (x : A) → AllHave P xs → IsOneOf x xs → P x
all_one P [] x all one = absurd one
all_one P (y ∷ xs) x all (inl same) = subst P (sym same) all.0
all_one P (y ∷ xs) x all (inr more) = all_one P xs x all.1 more

pub all_more : {A : Type 0} (P R : A → Type 0) (xs : List A) → AllHave P xs → ((x : A) → P x → R x) → AllHave R xs
all_more P R [] h go = tt
all_more P R (x ∷ xs) h go = (go x h.0, all_more P R xs h.1 go)

module _ (Q : ℕ → Type 0) where
  -- ---- terms

  -- the operations and the positions of a term
  pub record TermFits (t : DefaultTerm) : Type 0 where
    pub conditions : AllHave (λ e. AllHave Q (files_in e)) (conditions_in t)
    pub consequences : AllHave (λ (h : judging.Held Expr). AllHave Q (files_in h.value)) (consequences_in t)
    pub places : AllHave (λ (h : judging.Held Expr). Q (pos_file h.pos)) (consequences_in t)

  if_some : {A : Type 0} (P : A → Type 0) (o : Option A) (x : A) → o ≡ Some x → IfSome o P → P x
  if_some P o x is h = subst (λ (y : Option _). IfSome y P) is h

  pub made_fits : (defs : List Def) → AllHave (DefFits Q) defs → (t : DefaultTerm) → IsTermOf defs t → TermFits t
  made_fits defs fit t made = record {
    conditions =
        all_more (IsConditionOf defs) (λ e. AllHave Q (files_in e)) (conditions_in t) made.conditions (λ e is.
        if_some (λ e. AllHave Q (files_in e)) is.def.condition e is.is
        (all_one (DefFits Q) defs is.def fit is.there).condition);
    consequences =
        all_more (IsConsequenceOf defs) (λ (h : judging.Held Expr). AllHave Q (files_in h.value)) (consequences_in t)
        made.consequences (λ h is. subst (λ e. AllHave Q (files_in e)) (sym is.value)
        (all_one (DefFits Q) defs is.def fit is.there).consequence);
    places =
        all_more (IsConsequenceOf defs) (λ (h : judging.Held Expr). Q (pos_file h.pos)) (consequences_in t)
        made.consequences (λ h is. subst (λ p. Q (pos_file p)) (sym is.pos)
        (all_one (DefFits Q) defs is.def fit is.there).place);
  }

module _ (Q : ℕ → Type 0) (T : TargetEntry → Type 0) where
  fits_under : (at : TermStanding) (j : Justification) (a : Coded)
      → AllHave (λ e. AllHave Q (files_in e)) (condition_in j) → Fits Q T a → Fits Q T (under at j a)
  fits_under at justification.Never a h f = laid.fits_nothing Q T
  fits_under at justification.Always a h f = f
  fits_under at (justification.Where e) a h f =
      laid.fits_then Q T _ _ (lowered_fits Q T at.here e h.0 at.locals None)
      (laid.fits_over Q T (λ t. instr.JumpFalse t) a f)

  fits_checked : (at : TermStanding) (b : Bool) (a : Coded) → Fits Q T a → Fits Q T (checked_code at b a)
  fits_checked at false a f = f
  fits_checked at true a f = laid.fits_then Q T a _ f (laid.fits_one Q T _)

  fits_otherwise : (at : TermStanding) (j : Justification) (a : Coded)
      → AllHave (λ e. AllHave Q (files_in e)) (condition_in j) → Fits Q T a → Fits Q T (otherwise at j a)
  fits_otherwise at justification.Never a h f = laid.fits_nothing Q T
  fits_otherwise at justification.Always a h f =
      laid.fits_over Q T (λ t. instr.Held t) _ (fits_under at justification.Always _ tt (fits_checked at true a f))
  fits_otherwise at (justification.Where e) a h f =
      laid.fits_over Q T (λ t. instr.Held t) _ (fits_under at (justification.Where e) _ h (fits_checked at true a f))

  fits_framed : (at : TermStanding) (cs : List Coded) (j : Justification) (a : Coded) → AllHave (Fits Q T) cs
      → AllHave (λ e. AllHave Q (files_in e)) (condition_in j) → Fits Q T a → Fits Q T (framed at cs j a)
  fits_framed at cs j a all h f =
      laid.fits_led Q T _ _ (laid.fits_then Q T _ _ (laid.fits_all Q T cs all) (laid.fits_led Q T _ _
      (laid.fits_then Q T _ _ (fits_otherwise at j a h f) (laid.fits_one Q T _))))

  fits_default : (at : TermStanding) (cs : List Coded) (j : Justification) (a : Coded) → AllHave (Fits Q T) cs
      → AllHave (λ e. AllHave Q (files_in e)) (condition_in j) → Fits Q T a → Fits Q T (default_code at cs j a)
  fits_default at [] j a all h f = fits_under at j a h f
  fits_default at (c ∷ []) justification.Never a all h f = all.0
  fits_default at (c ∷ []) justification.Always a all h f = fits_framed at (c ∷ []) justification.Always a all h f
  fits_default at (c ∷ []) (justification.Where e) a all h f =
      fits_framed at (c ∷ []) (justification.Where e) a all h f
  fits_default at (c ∷ d ∷ cs) j a all h f = fits_framed at (c ∷ d ∷ cs) j a all h f

  module _ (at : TermStanding) where
    -- the operations of a term alone
    pub record Operates (t : DefaultTerm) : Type 0 where
      pub conditions : AllHave (λ e. AllHave Q (files_in e)) (conditions_in t)
      pub consequences : AllHave (λ (h : judging.Held Expr). AllHave Q (files_in h.value)) (consequences_in t)

    abbrev HeldTerm : DefaultTerm → Type 0
    HeldTerm t = Operates t → Fits Q T (term_code at t)

    on_empty : HeldTerm leaf.Empty
    on_empty h = rw (equation.code_Empty at) (laid.fits_nothing Q T)

    on_consequence : (number : ℕ) (p : Pos) (e : Expr) → HeldTerm (leaf.Consequence number p e)
    on_consequence number p e h =
        let has = subst (λ hs. AllHave (λ (h : judging.Held Expr). AllHave Q (files_in h.value)) hs)
        (calculus.consequences_Consequence number p e) h.consequences in
        rw (equation.code_Consequence at number p e)
        (laid.fits_then Q T _ _ (lowered_fits Q T at.here e has.0 at.locals (Some at.type)) (laid.fits_one Q T _))

    each_operates : (ts : List DefaultTerm)
        → AllHave (λ e. AllHave Q (files_in e)) (all_in (map conditions_in ts))
        → AllHave (λ (h : judging.Held Expr). AllHave Q (files_in h.value)) (all_in (map consequences_in ts))
        → Each Operates ts
    each_operates [] h i = tt
    each_operates (t ∷ ts) h i = (
      record {
        conditions = all_front _ (conditions_in t) (all_in (map conditions_in ts)) h;
        consequences = all_front _ (consequences_in t) (all_in (map consequences_in ts)) i;
      },
      each_operates ts (all_back _ (conditions_in t) (all_in (map conditions_in ts)) h)
          (all_back _ (consequences_in t) (all_in (map consequences_in ts)) i),
    )

    on_default : (ts : List DefaultTerm) (j : Justification) (t : DefaultTerm) → Each HeldTerm ts → HeldTerm t
        → HeldTerm (term.Default ts j t)
    on_default ts j t held own h =
        let cs = subst (λ es. AllHave (λ e. AllHave Q (files_in e)) es) (calculus.conditions_Default ts j t)
        h.conditions in
        let hs = subst (λ hs. AllHave (λ (h : judging.Held Expr). AllHave Q (files_in h.value)) hs)
        (calculus.consequences_Default ts j t) h.consequences in
        let both = all_front _ (all_in (map conditions_in ts) ++ condition_in j) (conditions_in t) cs in
        let parts = each_operates ts (all_front _ (all_in (map conditions_in ts)) (condition_in j) both)
        (all_front _ (all_in (map consequences_in ts)) (consequences_in t) hs) in
        rw (equation.code_Default at ts j t)
        (fits_default at (map (term_code at) ts) j (term_code at t)
        (each_mapped (λ t. Fits Q T (term_code at t)) (Fits Q T) (term_code at) ts (λ t f. f)
        (each_on Operates (λ t. Fits Q T (term_code at t)) ts held parts))
        (all_back _ (all_in (map conditions_in ts)) (condition_in j) both)
        (own (record {
          conditions = all_back _ (all_in (map conditions_in ts) ++ condition_in j) (conditions_in t) cs;
          consequences = all_back _ (all_in (map consequences_in ts)) (consequences_in t) hs;
        })))

    pub term_fits : (t : DefaultTerm) → TermFits Q t → Fits Q T (term_code at t)
    term_fits t h =
        calculus.induction HeldTerm on_empty on_consequence on_default t
        (record { conditions = h.conditions; consequences = h.consequences })

  -- ---- targets

  judged_fits : (at : TermStanding) (o : Option DefaultTerm) → IfSome o (TermFits Q) → Fits Q T (judged_code at o)
  judged_fits at None h = laid.fits_led Q T _ _ (laid.fits_one Q T _)
  judged_fits at (Some t) h =
      laid.fits_led Q T _ _ (laid.fits_then Q T _ _ (term_fits at t h) (laid.fits_one Q T _))

  without_fits : (v : ℕ) (b : Bool) → Fits Q T (without_value v b)
  without_fits v true = laid.fits_truth Q T false
  without_fits v false = laid.fits_one Q T _

  pub target_fits : (here : Standing) (e : TargetEntry) (t : Ty) (locals : List Ty) (b : Bool) (o : Option DefaultTerm)
      → T e → IfSome o (TermFits Q) → Fits Q T (target_code here e t locals b o)
  target_fits here e t locals b o has h =
      laid.fits_targeted Q T e _ has (λ v. laid.fits_then Q T _ _
      (judged_fits (record { here = here; target = v; type = t; locals = locals }) o h)
      (laid.fits_branch Q T (λ t. instr.Take t) _ _ (laid.fits_nothing Q T) (without_fits v b)))

  pub context_fits : (here : Standing) (e : TargetEntry) (t : Ty) (n : ℕ) (o : Option DefaultTerm)
      → T e → IfSome o (TermFits Q) → Fits Q T (context_code here e t n o)
  context_fits here e t n o has h =
      laid.fits_targeted Q T e _ has (λ v. laid.fits_then Q T _ _
      (judged_fits (record { here = here; target = v; type = t; locals = [] }) o h)
      (laid.fits_over Q T (λ t. instr.Take t) _ (laid.fits_one Q T _)))
