-- The files of operations in what an expression means: of forms whose parts are known.
use Rattle.std.proofs.Common.{◌≡◌, ◌&&◌, ℕ, List, [], ◌∷◌, ◌++◌, map, Option, Some, None, Ok, refl, sym, ap, ◌∙◌, subst}
use Rattle.cat_pos.specs.declared.pos.Pos.{Pos}
use Rattle.cat_pos.specs.Position.{pos_file}
use Rattle.cat_value.specs.declared.ty.Ty.{Ty}
use Rattle.cat_value.specs.declared.ty.Ty.TheVariants as flat_ty
use Rattle.cat_value.specs.declared.ty.Ty.TheViews as ty
use Rattle.cat_tree.specs.declared.name.Name.{Name}
use Rattle.cat_tree.specs.declared.expression.Operator.{Operator}
use Rattle.cat_tree.specs.declared.expression.Operator.TheVariants as operator
use Rattle.cat_tree.specs.declared.expression.Prefix.{Prefix}
use Rattle.cat_tree.specs.declared.expression.Prefix.TheVariants as prefix
use Rattle.cat_tree.specs.declared.expression.Pattern.{Pattern}
use Rattle.cat_scope.specs.declared.expr.Literal.{Literal}
use Rattle.cat_scope.specs.declared.expr.Expr.{Expr}
use Rattle.cat_scope.specs.declared.expr.Expr.TheVariants as leaf
use Rattle.cat_scope.specs.declared.expr.Expr.TheViews as expr
use Rattle.cat_scope.specs.declared.expr.FieldValue.{FieldValue}
use Rattle.cat_scope.specs.declared.expr.Arm.{Arm}
use Rattle.cat_scope.specs.Names.{Names, AllHave}
use Rattle.cat_scope.specs.Mentions.{joined}
use Rattle.cat_scope.proofs.Exported.{names_by_level, names_in_field, names_in_arm, names_in_field_is, names_in_arm_is}
use Rattle.cat_scope.proofs.Exported.{Each, all_append}
use Rattle.cat_names.specs.declared.fault.Fault.TheVariants.{TypeMismatch, NameUnknown}
use Rattle.cat_names.specs.declared.typed.Typed.{Typed}
use Rattle.cat_names.specs.declared.typed.Local.{Local}
use Rattle.cat_names.specs.Found.{Found, and_then, or_fault}
use Rattle.cat_names.specs.Types.{same, flat_of, whole, element_of, is_as_expected}
use Rattle.cat_names.specs.Rows.{operator_for, prefix_for, sum_for}
use Rattle.cat_names.specs.Operations.{as_expected, operated, binary_of, prefixed_of, sum_of}
use Rattle.cat_names.specs.Naming.{typed}
use Rattle.cat_names.specs.Parts.{Meaning, all_of_type, elements_of, arguments_of, value_of, values_of, pattern_of}
use Rattle.cat_names.specs.Parts.{arm_of, all_arms, arms_of}
use Rattle.cat_names.specs.TypedMeanings.{OnFound}
use Rattle.cat_lower.specs.Files.{own_file, files_in}
use Rattle.cat_emitted.proofs.FoundLemmas.{on_then, on_both, on_where, on_any}

-- the files of the values of fields, and of the bodies of arms
abbrev pub files_of_values : List FieldValue → List ℕ
files_of_values fs = joined (map (λ f. files_in f.value) fs)

abbrev pub files_of_bodies : List Arm → List ℕ
files_of_bodies arms = joined (map (λ a. files_in a.body) arms)

pub values_are : (fs : List FieldValue) → joined (map (names_in_field own_file) fs) ≡ files_of_values fs
values_are [] = refl
values_are (f ∷ fs) = ap (λ ns. ns ++ joined (map (names_in_field own_file) fs)) (names_in_field_is own_file f)
    ∙ ap (λ ns. files_in f.value ++ ns) (values_are fs)

pub bodies_are : (arms : List Arm) → joined (map (names_in_arm own_file) arms) ≡ files_of_bodies arms
bodies_are [] = refl
bodies_are (a ∷ arms) = ap (λ ns. ns ++ joined (map (names_in_arm own_file) arms)) (names_in_arm_is own_file a)
    ∙ ap (λ ns. files_in a.body ++ ns) (bodies_are arms)

module _ (Q : ℕ → Type 0) where
  -- the files of operations in an expression have the property
  abbrev pub Fits : Typed → Type 0
  Fits x = AllHave Q (files_in x.expr)

  -- those of what a meaning gives, wherever it stands
  abbrev pub FitsBy : Meaning → Type 0
  FitsBy m = (ls : List Local) (ex : Option Ty) → OnFound Fits (m ls ex)

  -- ---- operations

  pub fits_expected : (ex : Option Ty) (found : Found Typed) → OnFound Fits found
      → OnFound Fits (as_expected ex found)
  fits_expected ex found h =
      on_then Fits Fits found _ h (λ x hx. on_where Fits (is_as_expected ex x.ty) _ (Ok x) (λ is. hx))

  pub fits_literal : (p : Pos) (l : Literal) → AllHave Q (files_in (leaf.Literal p l))
  fits_literal p l = rw (names_by_level own_file (leaf.Literal p l), expr.outs-Literal p l) tt

  pub fits_one : (a : Typed) → Fits a → (e : Expr) → files_in e ≡ files_in a.expr → AllHave Q (files_in e)
  fits_one a ha e is = subst (AllHave Q) (sym is) ha

  pub fits_two : (a b : Typed) → Fits a → Fits b → (e : Expr) → files_in e ≡ files_in a.expr ++ files_in b.expr
      → AllHave Q (files_in e)
  fits_two a b ha hb e is = subst (AllHave Q) (sym is) (all_append Q (files_in a.expr) (files_in b.expr) ha hb)

  pub fits_two_at : (p : Pos) → Q (pos_file p) → (a b : Typed) → Fits a → Fits b → (e : Expr)
      → files_in e ≡ pos_file p ∷ (files_in a.expr ++ files_in b.expr) → AllHave Q (files_in e)
  fits_two_at p hp a b ha hb e is =
      subst (AllHave Q) (sym is) (hp, all_append Q (files_in a.expr) (files_in b.expr) ha hb)

  between : (o : Operator) (p : Pos) → Q (pos_file p) → (a b : Typed) → Fits a → Fits b
      → OnFound Fits (and_then (or_fault (TypeMismatch p) (operator_for o a.ty b.ty))
      (λ row. Ok (operated a.first p (expr.Binary a.first row.0 p a.expr b.expr) (whole row.1))))
  between o p hp a b ha hb = on_then (λ t. Unit {0}) Fits
      (or_fault (TypeMismatch p) (operator_for o a.ty b.ty)) _
      (on_any (or_fault (TypeMismatch p) (operator_for o a.ty b.ty)))
      (λ row i. fits_two_at p hp a b ha hb (expr.Binary a.first row.0 p a.expr b.expr)
      (rw (
        names_by_level own_file (expr.Binary a.first row.0 p a.expr b.expr),
        expr.outs-Binary a.first row.0 p a.expr b.expr,
      ) refl))

  pub fits_binary : (o : Operator) (p : Pos) → Q (pos_file p) → (a b : Typed) → Fits a → Fits b
      → OnFound Fits (binary_of o p a b)
  fits_binary operator.And p hp a b ha hb =
      on_where Fits (same flat_ty.Boolean a.ty && same flat_ty.Boolean b.ty) _ _ (λ is.
      fits_two a b ha hb (expr.And a.first a.expr b.expr)
      (rw (names_by_level own_file (expr.And a.first a.expr b.expr), expr.outs-And a.first a.expr b.expr) refl))
  fits_binary operator.Or p hp a b ha hb =
      on_where Fits (same flat_ty.Boolean a.ty && same flat_ty.Boolean b.ty) _ _ (λ is.
      fits_two a b ha hb (expr.Or a.first a.expr b.expr)
      (rw (names_by_level own_file (expr.Or a.first a.expr b.expr), expr.outs-Or a.first a.expr b.expr) refl))
  fits_binary operator.Contains p hp a b ha hb = on_then (λ t. Unit {0}) Fits
      (or_fault (TypeMismatch p) (flat_of b.ty)) _ (on_any (or_fault (TypeMismatch p) (flat_of b.ty)))
      (λ t i. on_where Fits (same (ty.List (whole t)) a.ty) _ _ (λ is.
      fits_two_at p hp a b ha hb (expr.Contains a.first p a.expr b.expr)
      (rw (
        names_by_level own_file (expr.Contains a.first p a.expr b.expr),
        expr.outs-Contains a.first p a.expr b.expr,
      ) refl)))
  fits_binary operator.Xor p hp a b ha hb = between operator.Xor p hp a b ha hb
  fits_binary operator.Less p hp a b ha hb = between operator.Less p hp a b ha hb
  fits_binary operator.LessEqual p hp a b ha hb = between operator.LessEqual p hp a b ha hb
  fits_binary operator.Greater p hp a b ha hb = between operator.Greater p hp a b ha hb
  fits_binary operator.GreaterEqual p hp a b ha hb = between operator.GreaterEqual p hp a b ha hb
  fits_binary operator.Equal p hp a b ha hb = between operator.Equal p hp a b ha hb
  fits_binary operator.NotEqual p hp a b ha hb = between operator.NotEqual p hp a b ha hb
  fits_binary operator.Plus p hp a b ha hb = between operator.Plus p hp a b ha hb
  fits_binary operator.Minus p hp a b ha hb = between operator.Minus p hp a b ha hb
  fits_binary operator.Times p hp a b ha hb = between operator.Times p hp a b ha hb
  fits_binary operator.Divide p hp a b ha hb = between operator.Divide p hp a b ha hb

  before : (o : Prefix) (p : Pos) → Q (pos_file p) → (a : Typed) → Fits a
      → OnFound Fits (and_then (or_fault (TypeMismatch p) (prefix_for o a.ty))
      (λ row. Ok (typed p (expr.Unary p row.0 a.expr) (whole row.1))))
  before o p hp a ha = on_then (λ t. Unit {0}) Fits (or_fault (TypeMismatch p) (prefix_for o a.ty)) _
      (on_any (or_fault (TypeMismatch p) (prefix_for o a.ty)))
      (λ row i. rw (names_by_level own_file (expr.Unary p row.0 a.expr), expr.outs-Unary p row.0 a.expr) (hp, ha))

  pub fits_prefixed : (o : Prefix) (p : Pos) → Q (pos_file p) → (a : Typed) → Fits a
      → OnFound Fits (prefixed_of o p a)
  fits_prefixed prefix.NumberOf p hp a ha = on_then (λ t. Unit {0}) Fits
      (or_fault (TypeMismatch p) (element_of a.ty)) _ (on_any (or_fault (TypeMismatch p) (element_of a.ty)))
      (λ t i. fits_one a ha (expr.Length p a.expr)
      (rw (names_by_level own_file (expr.Length p a.expr), expr.outs-Length p a.expr) refl))
  fits_prefixed prefix.Not p hp a ha = before prefix.Not p hp a ha
  fits_prefixed prefix.Negate p hp a ha = before prefix.Negate p hp a ha
  fits_prefixed prefix.IntegerOf p hp a ha = before prefix.IntegerOf p hp a ha
  fits_prefixed prefix.DecimalOf p hp a ha = before prefix.DecimalOf p hp a ha
  fits_prefixed prefix.MoneyOf p hp a ha = before prefix.MoneyOf p hp a ha
  fits_prefixed prefix.RoundOf p hp a ha = before prefix.RoundOf p hp a ha
  fits_prefixed prefix.GetYear p hp a ha = before prefix.GetYear p hp a ha
  fits_prefixed prefix.GetMonth p hp a ha = before prefix.GetMonth p hp a ha
  fits_prefixed prefix.GetDay p hp a ha = before prefix.GetDay p hp a ha

  pub fits_sum : (p : Pos) → Q (pos_file p) → (t : Ty) (a : Typed) → Fits a → OnFound Fits (sum_of p t a)
  fits_sum p hp t a ha = on_then (λ k. Unit {0}) Fits (or_fault (TypeMismatch p) (sum_for t)) _
      (on_any (or_fault (TypeMismatch p) (sum_for t)))
      (λ k i. on_where Fits (same (ty.List t) a.ty) _ _
      (λ is. rw (names_by_level own_file (expr.Sum p k a.expr), expr.outs-Sum p k a.expr) (hp, ha)))

  -- ---- lists of parts

  abbrev pub FitAll : List Expr → Type 0
  FitAll es = AllHave Q (joined (map files_in es))

  module _ {A : Type 0} (means : A → Meaning) where
    fits_all : (xs : List A) → Each (λ x. FitsBy (means x)) xs → (ls : List Local) (t : Ty)
        → OnFound FitAll (all_of_type means xs ls t)
    fits_all [] each ls t = tt
    fits_all (x ∷ xs) each ls t = on_both Fits FitAll FitAll (means x ls (Some t)) (all_of_type means xs ls t) _
        (each.0 ls (Some t)) (fits_all xs each.1 ls t)
        (λ y ys hy hys. all_append Q (files_in y.expr) (joined (map files_in ys)) hy hys)

    abbrev pub FitRow : List Expr × Ty → Type 0
    FitRow row = FitAll row.0

    pub fits_elements : (p : Pos) (xs : List A) → Each (λ x. FitsBy (means x)) xs → (ls : List Local)
        (ex : Option Ty) → OnFound FitRow (elements_of means p xs ls ex)
    fits_elements p [] each ls None = tt
    fits_elements p [] each ls (Some t) = tt
    fits_elements p (x ∷ xs) each ls ex =
        on_then Fits FitRow (means x ls ex) _ (each.0 ls ex)
        (λ y hy. on_then FitAll FitRow (all_of_type means xs ls y.ty) _ (fits_all xs each.1 ls y.ty)
        (λ ys hys. all_append Q (files_in y.expr) (joined (map files_in ys)) hy hys))

    pub fits_arguments : (xs : List A) → Each (λ x. FitsBy (means x)) xs → (ls : List Local) (ts : List Ty)
        → OnFound FitAll (arguments_of means xs ls ts)
    fits_arguments [] each ls ts = tt
    fits_arguments (x ∷ xs) each ls [] = tt
    fits_arguments (x ∷ xs) each ls (t ∷ ts) =
        on_both Fits FitAll FitAll (means x ls (Some t)) (arguments_of means xs ls ts) _ (each.0 ls (Some t))
        (fits_arguments xs each.1 ls ts)
        (λ y ys hy hys. all_append Q (files_in y.expr) (joined (map files_in ys)) hy hys)

  abbrev pub FitValue : FieldValue → Type 0
  FitValue f = AllHave Q (files_in f.value)

  abbrev pub FitValues : List FieldValue → Type 0
  FitValues fs = AllHave Q (files_of_values fs)

  module _ {A : Type 0} (means : A → Name × Meaning) (field : List ℕ → Option (ℕ × Ty)) where
    fits_value : (x : A) → FitsBy ((means x).1) → (ls : List Local) → OnFound FitValue (value_of field (means x) ls)
    fits_value x h ls = on_then (λ k. Unit {0}) FitValue
        (or_fault (NameUnknown ((means x).0.pos)) (field ((means x).0.text))) _
        (on_any (or_fault (NameUnknown ((means x).0.pos)) (field ((means x).0.text))))
        (λ k i. on_then Fits FitValue ((means x).1 ls (Some k.1)) _ (h ls (Some k.1)) (λ y hy. hy))

    pub fits_values : (xs : List A) → Each (λ x. FitsBy ((means x).1)) xs → (ls : List Local)
        → OnFound FitValues (values_of means field xs ls)
    fits_values [] each ls = tt
    fits_values (x ∷ xs) each ls = on_both FitValue FitValues FitValues
        (value_of field (means x) ls) (values_of means field xs ls) _
        (fits_value x each.0 ls) (fits_values xs each.1 ls)
        (λ y ys hy hys. all_append Q (files_in y.value) (files_of_values ys) hy hys)

  abbrev FitArm : Arm × Ty → Type 0
  FitArm a = AllHave Q (files_in a.0.body)

  abbrev pub FitArms : List Arm → Type 0
  FitArms arms = AllHave Q (files_of_bodies arms)

  abbrev pub FitRows : List Arm × Ty → Type 0
  FitRows row = FitArms row.0

  module _ {A : Type 0} (means : A → Pattern × Meaning) (ns : Names) (p : Pos) (n : ℕ) where
    fits_arm : (x : A) → FitsBy ((means x).1) → (ls : List Local) (ex : Option Ty)
        → OnFound FitArm (arm_of ns p n (means x) ls ex)
    fits_arm x h ls ex = on_then (λ q. Unit {0}) FitArm (pattern_of ns p n ((means x).0) ls) _
        (on_any (pattern_of ns p n ((means x).0) ls))
        (λ q i. on_then Fits FitArm ((means x).1 q.1 ex) _ (h q.1 ex) (λ y hy. hy))

    fits_all_arms : (xs : List A) → Each (λ x. FitsBy ((means x).1)) xs → (ls : List Local) (t : Ty)
        → OnFound FitArms (all_arms means ns p n xs ls t)
    fits_all_arms [] each ls t = tt
    fits_all_arms (x ∷ xs) each ls t = on_both FitArm FitArms FitArms
        (arm_of ns p n (means x) ls (Some t)) (all_arms means ns p n xs ls t) _
        (fits_arm x each.0 ls (Some t)) (fits_all_arms xs each.1 ls t)
        (λ y ys hy hys. all_append Q (files_in y.0.body) (files_of_bodies ys) hy hys)

    pub fits_arms : (xs : List A) → Each (λ x. FitsBy ((means x).1)) xs → (ls : List Local) (ex : Option Ty)
        → OnFound FitRows (arms_of means ns p n xs ls ex)
    fits_arms [] each ls ex = tt
    fits_arms (x ∷ xs) each ls ex = on_then FitArm FitRows (arm_of ns p n (means x) ls ex) _
        (fits_arm x each.0 ls ex)
        (λ y hy. on_then FitArms FitRows (all_arms means ns p n xs ls y.1) _ (fits_all_arms xs each.1 ls y.1)
        (λ ys hys. all_append Q (files_in y.0.body) (files_of_bodies ys) hy hys))
