-- Comparisons with constants: what they evaluate to.
use Rattle.std.proofs.Common.{◌≡◌, ℤ, pos, negsuc, Bool, true, false, not, IsTrue, List}
use Rattle.std.proofs.Common.{Option, Some, None, Result, Ok, Err, refl, sym, ap, ◌∙◌, subst, arith, true≢false}
use Rattle.std.specs.Prelude.{◌*ℤ◌, cond, int_lt}
use Rattle.std.specs.declared.cmp.Ordering.TheVariants as order
use Rattle.std.specs.Ordering.{int_cmp, ordering_reverse}
use Rattle.std.proofs.lemmas.Bool.Decides.{nat_tests}
use Rattle.cat_pos.specs.declared.pos.Pos.{Pos}
use Rattle.cat_num.specs.Whole.{fits}
use Rattle.cat_num.specs.Frac.{Fraction, frac_order, is_reduced}
use Rattle.cat_date.specs.Calendar.{is_day}
use Rattle.cat_date.specs.declared.rounding.Rounding.{Rounding}
use Rattle.cat_value.specs.declared.ty.Ty.{Ty}
use Rattle.cat_value.specs.declared.ty.Ty.TheVariants as flat_ty
use Rattle.cat_value.specs.declared.value.Value.{Value}
use Rattle.cat_value.specs.declared.value.Value.TheVariants as flat
use Rattle.cat_value.specs.declared.value.Value.TheViews as value
use Rattle.cat_value.specs.declared.decls.Decls.{Decls}
use Rattle.cat_value.proofs.Exported.{integer_value, decimal_value, money_value, date_value}
use Rattle.cat_region.specs.declared.cut.Threshold.{Threshold}
use Rattle.cat_region.specs.declared.cut.Threshold.TheVariants as threshold
use Rattle.cat_region.specs.declared.point.Point.{Point}
use Rattle.cat_region.specs.declared.point.Point.TheVariants as point
use Rattle.cat_region.specs.Points.{is_point, point_order}
use Rattle.cat_scope.specs.declared.stop.Stop.{Stop}
use Rattle.cat_scope.specs.declared.expr.Literal.{Literal}
use Rattle.cat_scope.specs.declared.expr.Literal.TheVariants as literal
use Rattle.cat_scope.specs.declared.expr.Expr.{Expr}
use Rattle.cat_scope.specs.declared.expr.Arm.{Arm}
use Rattle.cat_scope.specs.declared.expr.FieldValue.{FieldValue}
use Rattle.cat_scope.specs.declared.expr.Expr.TheOpen.{Expr-F}
use Rattle.cat_scope.specs.declared.expr.Expr.TheViews.{out-Expr}
use Rattle.cat_scope.specs.declared.expr.Expr.TheFolds.{map-Expr}
use Rattle.cat_scope.specs.declared.operators.UnaryOp.{UnaryOp}
use Rattle.cat_scope.specs.declared.operators.UnaryOp.TheVariants as unary
use Rattle.cat_scope.specs.declared.operators.BinaryOp.{BinaryOp}
use Rattle.cat_scope.specs.declared.operators.BinaryOp.TheVariants as binary
use Rattle.cat_scope.specs.Replies.{on_one}
use Rattle.cat_scope.specs.Runs.{plain}
use Rattle.cat_scope.specs.Projections as read
use Rattle.cat_scope.specs.Comparing.{compared, compared_in, equal, equal_in, is_equal}
use Rattle.cat_scope.specs.Operators.{convert, operate}
use Rattle.cat_scope.specs.Composed.{Meaning, literal_value}
use Rattle.cat_scope.specs.Eval.{Env, eval, meaning_of}
use Rattle.cat_scope.specs.Literals.{literal_type}
use Rattle.cat_scope.specs.Names.{Names}
use Rattle.cat_scope.specs.Signatures.{given_by}
use Rattle.cat_scope.specs.HasType.{HasType}
use Rattle.cat_scope.proofs.Exported.{Field, Branch, field, branch, levels}
use Rattle.cat_sound.specs.Endings.{IsOf}
use Rattle.cat_sound.specs.Parts.{PartsTyped}
use Rattle.cat_sound.proofs.Exported.{parts_typed}
use Rattle.cat_guard.specs.Comparisons.{Comparison, comparison_of, reads, threshold_dim, constant_of}
use Rattle.cat_guard.specs.Comparisons.{constant_in, constant_under, literal_constant, negated_constant}
use Rattle.cat_guard.specs.Comparisons as comparison
use Rattle.cat_guard.specs.PointValues.{point_in, point_of}
use Rattle.cat_guard.proofs.Exported.{then_end}

-- ---- an expression by its form

abbrev pub Form : Type 0
Form = Expr-F Expr Arm FieldValue

abbrev pub opened : Env → Form → Expr-F Meaning Branch Field
opened env y = map-Expr Expr Arm FieldValue Meaning Branch Field (eval env) (branch env) (field env) y

pub eval_at : (env : Env) (e : Expr) (y : Form) → out-Expr e ≡ y → (ls : List Value)
    → eval env e ls ≡ meaning_of env (opened env y) ls
eval_at env e y is ls =
    ap (λ (m : Meaning). m ls) (levels env e ∙ ap (λ (x : Form). meaning_of env (opened env x)) is)

pub typed_at : (ns : Names) (ps : List Ty) (e : Expr) (y : Form) → out-Expr e ≡ y → (t : Ty) → HasType ns ps e t
    → PartsTyped ns ps y t
typed_at ns ps e y is t typed = subst (λ x. PartsTyped ns ps x t) is (parts_typed ns ps e t typed)

-- ---- what constants evaluate to

abbrev pub threshold_value : Threshold → Value
threshold_value (threshold.Whole n) = flat.Integer n
threshold_value (threshold.Money cents) = flat.Money cents
threshold_value (threshold.Day day) = flat.Date day
threshold_value (threshold.Decimal f) = flat.Decimal f

abbrev pub threshold_type : Threshold → Ty
threshold_type (threshold.Whole n) = flat_ty.Integer
threshold_type (threshold.Money cents) = flat_ty.Money
threshold_type (threshold.Day day) = flat_ty.Date
threshold_type (threshold.Decimal f) = flat_ty.Decimal

abbrev or_threshold : Threshold → Option Threshold → Threshold
or_threshold s None = s
or_threshold s (Some r) = r

same_threshold : (s r : Threshold) → Some s ≡ Some r → s ≡ r
same_threshold s r e = ap (or_threshold s) e

literal_is : (l : Literal) (s : Threshold) → literal_constant l ≡ Some s
    → (literal_type l ≡ threshold_type s) × (literal_value l ≡ threshold_value s)
literal_is (literal.Boolean b) s e = absurd (cc)
literal_is (literal.Duration span) s e = absurd (cc)
literal_is (literal.Integer n) s e =
    let same = same_threshold (threshold.Whole n) s e in (ap threshold_type same, ap threshold_value same)
literal_is (literal.Decimal d) s e =
    let same = same_threshold _ s e in (ap threshold_type same, ap threshold_value same)
literal_is (literal.Money cents) s e =
    let same = same_threshold (threshold.Money cents) s e in (ap threshold_type same, ap threshold_value same)
literal_is (literal.Date day) s e =
    let same = same_threshold (threshold.Day day) s e in (ap threshold_type same, ap threshold_value same)

abbrev Negated : UnaryOp → Literal → Threshold → Type 0
Negated o l s = (given_by o ≡ threshold_type s) × ((p : Pos) → convert o p (literal_value l) ≡ Ok (threshold_value s))

negated_is : (o : UnaryOp) (l : Literal) (s : Threshold) → negated_constant o l ≡ Some s → Negated o l s
negated_is unary.NegateInteger (literal.Integer n) s e =
    subst (Negated unary.NegateInteger (literal.Integer n)) (same_threshold _ s e)
    (refl, (λ p. rw (value.outs-Integer n) refl))
negated_is unary.NegateInteger (literal.Boolean b) s e = absurd (cc)
negated_is unary.NegateInteger (literal.Decimal d) s e = absurd (cc)
negated_is unary.NegateInteger (literal.Money cents) s e = absurd (cc)
negated_is unary.NegateInteger (literal.Date day) s e = absurd (cc)
negated_is unary.NegateInteger (literal.Duration span) s e = absurd (cc)
negated_is unary.NegateDecimal (literal.Decimal d) s e =
    subst (Negated unary.NegateDecimal (literal.Decimal d)) (same_threshold _ s e)
    (refl, (λ p. rw (value.outs-Decimal _) refl))
negated_is unary.NegateDecimal (literal.Boolean b) s e = absurd (cc)
negated_is unary.NegateDecimal (literal.Integer n) s e = absurd (cc)
negated_is unary.NegateDecimal (literal.Money cents) s e = absurd (cc)
negated_is unary.NegateDecimal (literal.Date day) s e = absurd (cc)
negated_is unary.NegateDecimal (literal.Duration span) s e = absurd (cc)
negated_is unary.NegateMoney (literal.Money cents) s e =
    subst (Negated unary.NegateMoney (literal.Money cents)) (same_threshold _ s e)
    (refl, (λ p. rw (value.outs-Money cents) refl))
negated_is unary.NegateMoney (literal.Boolean b) s e = absurd (cc)
negated_is unary.NegateMoney (literal.Integer n) s e = absurd (cc)
negated_is unary.NegateMoney (literal.Decimal d) s e = absurd (cc)
negated_is unary.NegateMoney (literal.Date day) s e = absurd (cc)
negated_is unary.NegateMoney (literal.Duration span) s e = absurd (cc)
negated_is _ l s e = absurd (cc)

module _ (ns : Names) (ps : List Ty) (env : Env) (arguments : List Value) where
  -- an expression of a type is a constant
  pub record IsConstant (e : Expr) (t : Ty) (s : Threshold) : Type 0 where
    pub ty : t ≡ threshold_type s
    pub end : (eval env e arguments).end ≡ Ok (threshold_value s)

  under_is : (p : Pos) (o : UnaryOp) (a e : Expr) (t : Ty) (s : Threshold) → out-Expr e ≡ Expr-F.Unary p o a
      → t ≡ given_by o → (y : Form) → out-Expr a ≡ y → constant_under o y ≡ Some s → IsConstant e t s
  under_is p o a e t s is ty (Expr-F.Literal q l) inside k =
      let negated = negated_is o l s k in record {
        ty = ty ∙ negated.0;
        end = ap (λ r. r.end) (eval_at env e (Expr-F.Unary p o a) is arguments)
            ∙ then_end (eval env a arguments) (λ v. plain (convert o p v))
            ∙ ap (λ r. on_one r (convert o p)) (ap (λ r. r.end) (eval_at env a (Expr-F.Literal q l) inside arguments))
            ∙ negated.1 p;
      }
  under_is p o a e t s is ty _ inside k = absurd (cc)

  pub constant_is : (e : Expr) (t : Ty) (s : Threshold) → constant_of e ≡ Some s → HasType ns ps e t → IsConstant e t s
  constant_is e t s k typed = by (out-Expr e) refl k
    where
      by : (y : Form) → out-Expr e ≡ y → constant_in y ≡ Some s → IsConstant e t s
      by (Expr-F.Literal p l) is k =
          let literal = literal_is l s k in record {
            ty = (typed_at ns ps e (Expr-F.Literal p l) is t typed).1 ∙ literal.0;
            end = ap (λ r. r.end) (eval_at env e (Expr-F.Literal p l) is arguments) ∙ ap Ok literal.1;
          }
      by (Expr-F.Unary p o a) is k =
          under_is p o a e t s is (typed_at ns ps e (Expr-F.Unary p o a) is t typed).1 (out-Expr a) refl k
      by _ is k = absurd (cc)

-- ---- how a value stands to a constant

abbrev FromComparing : Pos → Value → Value → Type 0
FromComparing p v w = equal p v w ≡ on_one (compared p v w) (λ o. Ok (is_equal o))

pub record IsCompared (s : Threshold) (v : Value) : Type 0 where
  pub point : Point
  pub point_is : point_of v ≡ Some point
  pub is : is_point (threshold_dim s) point ≡ true
  pub order : (p : Pos) → compared p v (threshold_value s) ≡ Ok (point_order point s)
  pub equal_is : (p : Pos) → FromComparing p v (threshold_value s)
  pub back : (p : Pos) → compared p (threshold_value s) v ≡ Ok (ordering_reverse (point_order point s))
  pub equal_back : (p : Pos) → FromComparing p (threshold_value s) v

not_both : (a b : Bool) → (a ≡ true → b ≡ true → ⊥)
    → cond b order.Less (cond a order.Greater order.Equal)
    ≡ ordering_reverse (cond a order.Less (cond b order.Greater order.Equal))
not_both true true h = absurd (h refl refl)
not_both true false h = refl
not_both false true h = refl
not_both false false h = refl

one_way : (n c : ℤ) → int_lt n c ≡ true → int_lt c n ≡ true → ⊥
one_way (pos n) (pos c) h k = grind (arith, nat_tests)
one_way (pos n) (negsuc c) h k = true≢false (sym h)
one_way (negsuc n) (pos c) h k = true≢false (sym k)
one_way (negsuc n) (negsuc c) h k = grind (arith, nat_tests)

int_turned : (n c : ℤ) → int_cmp c n ≡ ordering_reverse (int_cmp n c)
int_turned n c = not_both (int_lt n c) (int_lt c n) (one_way n c)

fractions_turned : (f c : Fraction) → frac_order c f ≡ ordering_reverse (frac_order f c)
fractions_turned f c = int_turned (f.num *ℤ pos c.den) (c.num *ℤ pos f.den)

whole_compared : (c n : ℤ) → IsTrue (fits n) → IsCompared (threshold.Whole c) (flat.Integer n)
whole_compared c n h = record {
  point = point.Whole n;
  point_is = ap point_in (value.outs-Integer n);
  is = h;
  order = λ p. ap (λ y. compared_in p y (flat.Integer c)) (value.outs-Integer n)
      ∙ ap (λ y. on_one (read.integer_in y) (λ b. Ok (int_cmp n b))) (value.outs-Integer c);
  equal_is = λ p. ap (λ y. equal_in p y (flat.Integer n) (flat.Integer c)) (value.outs-Integer n);
  back = λ p. ap (λ y. compared_in p y (flat.Integer n)) (value.outs-Integer c)
      ∙ ap (λ y. on_one (read.integer_in y) (λ b. Ok (int_cmp c b))) (value.outs-Integer n) ∙ ap Ok (int_turned n c);
  equal_back = λ p. ap (λ y. equal_in p y (flat.Integer c) (flat.Integer n)) (value.outs-Integer c);
}

money_compared : (c n : ℤ) → IsTrue (fits n) → IsCompared (threshold.Money c) (flat.Money n)
money_compared c n h = record {
  point = point.Money n;
  point_is = ap point_in (value.outs-Money n);
  is = h;
  order = λ p. ap (λ y. compared_in p y (flat.Money c)) (value.outs-Money n)
      ∙ ap (λ y. on_one (read.money_in y) (λ b. Ok (int_cmp n b))) (value.outs-Money c);
  equal_is = λ p. ap (λ y. equal_in p y (flat.Money n) (flat.Money c)) (value.outs-Money n);
  back = λ p. ap (λ y. compared_in p y (flat.Money n)) (value.outs-Money c)
      ∙ ap (λ y. on_one (read.money_in y) (λ b. Ok (int_cmp c b))) (value.outs-Money n) ∙ ap Ok (int_turned n c);
  equal_back = λ p. ap (λ y. equal_in p y (flat.Money c) (flat.Money n)) (value.outs-Money c);
}

day_compared : (c n : ℤ) → IsTrue (is_day n) → IsCompared (threshold.Day c) (flat.Date n)
day_compared c n h = record {
  point = point.Day n;
  point_is = ap point_in (value.outs-Date n);
  is = h;
  order = λ p. ap (λ y. compared_in p y (flat.Date c)) (value.outs-Date n)
      ∙ ap (λ y. on_one (read.date_in y) (λ b. Ok (int_cmp n b))) (value.outs-Date c);
  equal_is = λ p. ap (λ y. equal_in p y (flat.Date n) (flat.Date c)) (value.outs-Date n);
  back = λ p. ap (λ y. compared_in p y (flat.Date n)) (value.outs-Date c)
      ∙ ap (λ y. on_one (read.date_in y) (λ b. Ok (int_cmp c b))) (value.outs-Date n) ∙ ap Ok (int_turned n c);
  equal_back = λ p. ap (λ y. equal_in p y (flat.Date c) (flat.Date n)) (value.outs-Date c);
}

decimal_compared : (c n : Fraction) → IsTrue (is_reduced n) → IsCompared (threshold.Decimal c) (flat.Decimal n)
decimal_compared c n h = record {
  point = point.Decimal n;
  point_is = ap point_in (value.outs-Decimal n);
  is = h;
  order = λ p. ap (λ y. compared_in p y (flat.Decimal c)) (value.outs-Decimal n)
      ∙ ap (λ y. on_one (read.decimal_in y) (λ b. Ok (frac_order n b))) (value.outs-Decimal c);
  equal_is = λ p. ap (λ y. equal_in p y (flat.Decimal n) (flat.Decimal c)) (value.outs-Decimal n);
  back = λ p. ap (λ y. compared_in p y (flat.Decimal n)) (value.outs-Decimal c)
      ∙ ap (λ y. on_one (read.decimal_in y) (λ b. Ok (frac_order c b))) (value.outs-Decimal n)
      ∙ ap Ok (fractions_turned n c);
  equal_back = λ p. ap (λ y. equal_in p y (flat.Decimal c) (flat.Decimal n)) (value.outs-Decimal c);
}

pub compared_with : (ds : Decls) (s : Threshold) (v : Value) → IsOf ds (threshold_type s) v → IsCompared s v
compared_with ds (threshold.Whole c) v h =
    let is = integer_value ds v h in subst (IsCompared (threshold.Whole c)) (sym is.1) (whole_compared c is.0 is.2)
compared_with ds (threshold.Money c) v h =
    let is = money_value ds v h in subst (IsCompared (threshold.Money c)) (sym is.1) (money_compared c is.0 is.2)
compared_with ds (threshold.Day c) v h =
    let is = date_value ds v h in subst (IsCompared (threshold.Day c)) (sym is.1) (day_compared c is.0 is.2)
compared_with ds (threshold.Decimal c) v h =
    let is = decimal_value ds v h in subst (IsCompared (threshold.Decimal c)) (sym is.1) (decimal_compared c is.0 is.2)

-- ---- what comparisons give

abbrev or_comparison : Comparison → Option Comparison → Comparison
or_comparison c None = c
or_comparison c (Some d) = d

same_comparison : (c d : Comparison) → Some c ≡ Some d → c ≡ d
same_comparison c d e = ap (or_comparison c) e

on_one_on_one : {A B C : Type 0} (r : Result A Stop) (f : A → Result B Stop) (g : B → Result C Stop)
    → on_one (on_one r f) g ≡ on_one r (λ a. on_one (f a) g)
on_one_on_one (Ok a) f g = refl
on_one_on_one (Err stop) f g = refl

abbrev Gives : Rounding → BinaryOp → Pos → Value → Value → Comparison → Type 0
Gives rounding o p v w c = operate rounding o p v w ≡ on_one (compared p v w) (λ x. Ok (flat.Boolean (reads c x)))

pub operate_reads : (rounding : Rounding) (o : BinaryOp) (c : Comparison) → comparison_of o ≡ Some c → (p : Pos)
    (v w : Value) → FromComparing p v w → Gives rounding o p v w c
operate_reads rounding binary.Less c e p v w h =
    subst (Gives rounding binary.Less p v w) (same_comparison comparison.Less c e) refl
operate_reads rounding binary.AtMost c e p v w h =
    subst (Gives rounding binary.AtMost p v w) (same_comparison comparison.AtMost c e) refl
operate_reads rounding binary.Greater c e p v w h =
    subst (Gives rounding binary.Greater p v w) (same_comparison comparison.Greater c e) refl
operate_reads rounding binary.AtLeast c e p v w h =
    subst (Gives rounding binary.AtLeast p v w) (same_comparison comparison.AtLeast c e) refl
operate_reads rounding binary.Equal c e p v w h =
    subst (Gives rounding binary.Equal p v w) (same_comparison comparison.Equal c e)
    (ap (λ r. on_one r (λ b. Ok (flat.Boolean b))) h
    ∙ on_one_on_one (compared p v w) (λ o. Ok (is_equal o)) (λ b. Ok (flat.Boolean b)))
operate_reads rounding binary.Unequal c e p v w h =
    subst (Gives rounding binary.Unequal p v w) (same_comparison comparison.Unequal c e)
    (ap (λ r. on_one r (λ b. Ok (flat.Boolean (not b)))) h
    ∙ on_one_on_one (compared p v w) (λ o. Ok (is_equal o)) (λ b. Ok (flat.Boolean (not b))))
operate_reads rounding _ c e p v w h = absurd (cc)
