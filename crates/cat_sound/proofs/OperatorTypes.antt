-- Operators give values of the types of their rows, or their faults.
use Rattle.std.proofs.Common.{◌≡◌, inl, inr, ℤ, pos, ◌+ℤ◌, ◌-ℤ◌, ◌*ℤ◌, Bool, not, [], ◌∷◌, Result, Ok}
use Rattle.std.proofs.Common.{sym, ap, ◌∙◌, subst}
use Rattle.cat_pos.specs.declared.pos.Pos.{Pos}
use Rattle.cat_num.specs.declared.fault.NumFault.{NumFault}
use Rattle.cat_num.specs.Whole.{whole_sum, whole_difference, whole_product}
use Rattle.cat_num.specs.Frac.{Fraction, frac_of, frac_sum, frac_difference, frac_product, frac_quotient}
use Rattle.cat_num.specs.Rounding.{rounded, rounded_ratio, money_product, money_quotient}
use Rattle.cat_date.specs.declared.fault.DateFault.{DateFault}
use Rattle.cat_date.specs.declared.rounding.Rounding.{Rounding}
use Rattle.cat_date.specs.Calendar.{civil_of}
use Rattle.cat_date.specs.Add.{day_plus_span, date_plus_months}
use Rattle.cat_date.specs.Span.{SpanOf, span_in_range, span_negated, span_of_days}
use Rattle.cat_value.specs.declared.ty.Ty.{Ty}
use Rattle.cat_value.specs.declared.ty.Ty.TheVariants as ty
use Rattle.cat_value.specs.declared.value.Value.{Value}
use Rattle.cat_value.specs.declared.value.Value.TheVariants as flat
use Rattle.cat_value.specs.declared.value.Value.TheViews as value
use Rattle.cat_value.specs.declared.decls.Decls.{Decls}
use Rattle.cat_value.proofs.Exported.{boolean_value, integer_value, decimal_value, money_value, date_value}
use Rattle.cat_value.proofs.Exported.{duration_value}
use Rattle.cat_scope.specs.declared.operators.UnaryOp.{UnaryOp}
use Rattle.cat_scope.specs.declared.operators.UnaryOp.TheVariants as unary
use Rattle.cat_scope.specs.declared.operators.BinaryOp.{BinaryOp}
use Rattle.cat_scope.specs.declared.operators.BinaryOp.TheVariants as binary
use Rattle.cat_scope.specs.declared.stop.Stop.{Stop}
use Rattle.cat_scope.specs.Replies.{on_one, exact, dated}
use Rattle.cat_scope.specs.Projections as read
use Rattle.cat_scope.specs.Operators.{on_two, convert, operate}
use Rattle.cat_scope.specs.Comparing.{differ, is_less, is_greater}
use Rattle.cat_scope.specs.Names.{IsOneOf}
use Rattle.cat_scope.specs.Signatures.{Signature, signatures_of, taken_by}
use Rattle.cat_scope.specs.Signatures.{given_by}
use Rattle.cat_sound.specs.Endings.{ResultsIn, IsOf}
use Rattle.cat_sound.proofs.Comparisons.{Levels, by_order, by_equality}
use Rattle.cat_sound.proofs.Results.{Any, result_then, result_two, result_exact, reads-Boolean}
use Rattle.cat_sound.proofs.Fits.{whole_fits, ratio_fits, negation_fits, ratio_decimal, frac_decimal, negation_decimal}
use Rattle.cat_sound.proofs.Fits.{whole_decimal, cents_decimal, rounded_fits, truncated_fits, units_fit, year_fits}
use Rattle.cat_sound.proofs.Fits.{month_fits, day_fits, negation_span, days_span, range_span, sum_day}
use Rattle.cat_sound.proofs.FlatTypes.{IsDated, Whole, Frac, Day, Span, of-Boolean, of-Integer, of-Decimal, of-Money}
use Rattle.cat_sound.proofs.FlatTypes.{of-Date, of-Duration, reads-Integer, reads-Decimal, reads-Money, reads-Date}
use Rattle.cat_sound.proofs.FlatTypes.{reads-Duration, result_dated, range-dated, sum-dated}

-- how the values of a flat type are read, and what holds of what is read
record Reading (ds : Decls) (A : Type 0) (t : Ty) : Type 1 where
  reading : Value → Result A Stop
  Bound : A → Type 0
  within : (v : Value) → IsOf ds t v → ResultsIn Bound (reading v)

abbrev truths : (ds : Decls) → Reading ds Bool ty.Boolean
truths ds = record { reading = read.truth; Bound = Any {A = Bool}; within = reads-Boolean ds }

abbrev integers : (ds : Decls) → Reading ds ℤ ty.Integer
integers ds = record { reading = read.integer; Bound = Whole; within = reads-Integer ds }

abbrev decimals : (ds : Decls) → Reading ds Fraction ty.Decimal
decimals ds = record { reading = read.decimal; Bound = Frac; within = reads-Decimal ds }

abbrev amounts : (ds : Decls) → Reading ds ℤ ty.Money
amounts ds = record { reading = read.money; Bound = Whole; within = reads-Money ds }

abbrev days : (ds : Decls) → Reading ds ℤ ty.Date
days ds = record { reading = read.date; Bound = Day; within = reads-Date ds }

abbrev spans : (ds : Decls) → Reading ds SpanOf ty.Duration
spans ds = record { reading = read.duration; Bound = Span; within = reads-Duration ds }

-- what is exact, or its fault
module _ (ds : Decls) (p : Pos) where
  integer-is : (r : Result ℤ NumFault) → ((c : ℤ) → r ≡ Ok c → Whole c)
      → ResultsIn (IsOf ds ty.Integer) (exact p flat.Integer r)
  integer-is r h = result_exact (IsOf ds ty.Integer) p flat.Integer r (λ c e. of-Integer ds c (h c e))

  decimal-is : (r : Result Fraction NumFault) → ((c : Fraction) → r ≡ Ok c → Frac c)
      → ResultsIn (IsOf ds ty.Decimal) (exact p flat.Decimal r)
  decimal-is r h = result_exact (IsOf ds ty.Decimal) p flat.Decimal r (λ c e. of-Decimal ds c (h c e))

  money-is : (r : Result ℤ NumFault) → ((c : ℤ) → r ≡ Ok c → Whole c)
      → ResultsIn (IsOf ds ty.Money) (exact p flat.Money r)
  money-is r h = result_exact (IsOf ds ty.Money) p flat.Money r (λ c e. of-Money ds c (h c e))

  date-is : (r : Result ℤ DateFault) → IsDated r → ((c : ℤ) → r ≡ Ok c → Day c)
      → ResultsIn (IsOf ds ty.Date) (dated p flat.Date r)
  date-is r is h = result_dated (IsOf ds ty.Date) p flat.Date r is (λ c e. of-Date ds c (h c e))

  duration-is : (s : SpanOf) → ResultsIn (IsOf ds ty.Duration) (dated p flat.Duration (span_in_range s))
  duration-is s =
      result_dated (IsOf ds ty.Duration) p flat.Duration (span_in_range s) (range-dated s)
      (λ c e. of-Duration ds c (range_span s c e))

-- ---- what stands before one operand

one : {A : Type 0} {t : Ty} (ds : Decls) (v : Value) (X : Reading ds A t) (u : Ty) (next : A → Result Value Stop)
    → IsOf ds t v
    → ((a : A) → X.Bound a → ResultsIn (IsOf ds u) (next a)) → ResultsIn (IsOf ds u) (on_one (X.reading v) next)
one ds v X u next is go = result_then X.Bound (IsOf ds u) (X.reading v) next (X.within v is) go

-- an operator before one operand gives a value of its type, or a stop that an outcome may be
pub conversions_go_on : (ds : Decls) (p : Pos) (v : Value) (o : UnaryOp) → IsOf ds (taken_by o) v
    → ResultsIn (IsOf ds (given_by o)) (convert o p v)
conversions_go_on ds p v unary.NegateInteger is =
    one ds v (integers ds) ty.Integer _ is (λ n h. of-Integer ds _ (negation_fits n h))
conversions_go_on ds p v unary.NegateDecimal is =
    one ds v (decimals ds) ty.Decimal _ is (λ f h. of-Decimal ds _ (negation_decimal f h))
conversions_go_on ds p v unary.NegateMoney is =
    one ds v (amounts ds) ty.Money _ is (λ n h. of-Money ds _ (negation_fits n h))
conversions_go_on ds p v unary.NegateDuration is =
    one ds v (spans ds) ty.Duration _ is (λ s h. of-Duration ds _ (negation_span s h))
conversions_go_on ds p v unary.Not is = one ds v (truths ds) ty.Boolean _ is (λ b h. of-Boolean ds (not b))
conversions_go_on ds p v unary.IntegerOfDecimal is =
    one ds v (decimals ds) ty.Integer _ is (λ f h. of-Integer ds _ (truncated_fits f h))
conversions_go_on ds p v unary.DecimalOfInteger is =
    one ds v (integers ds) ty.Decimal _ is (λ n h. of-Decimal ds _ (whole_decimal n h))
conversions_go_on ds p v unary.DecimalOfMoney is =
    one ds v (amounts ds) ty.Decimal _ is (λ n h. of-Decimal ds _ (cents_decimal n h))
conversions_go_on ds p v unary.MoneyOfDecimal is =
    one ds v (decimals ds) ty.Money _ is
    (λ f h. money-is ds p (money_product (pos 100) f) (λ a e. whole_fits (rounded (pos 100 *ℤ f.num) f.den) a e))
conversions_go_on ds p v unary.MoneyOfInteger is =
    one ds v (integers ds) ty.Money _ is
    (λ n h. money-is ds p (whole_product n (pos 100)) (λ a e. whole_fits (n *ℤ pos 100) a e))
conversions_go_on ds p v unary.RoundDecimal is =
    one ds v (decimals ds) ty.Decimal _ is
    (λ f h. of-Decimal ds _ (whole_decimal (rounded f.num f.den) (rounded_fits f h)))
conversions_go_on ds p v unary.RoundMoney is =
    one ds v (amounts ds) ty.Money _ is (λ n h. of-Money ds _ (units_fit n h))
conversions_go_on ds p v unary.YearOfDate is =
    one ds v (days ds) ty.Integer _ is (λ n h. of-Integer ds _ (year_fits n h))
conversions_go_on ds p v unary.MonthOfDate is =
    one ds v (days ds) ty.Integer _ is (λ n h. of-Integer ds _ (month_fits n h))
conversions_go_on ds p v unary.DayOfDate is = one ds v (days ds) ty.Integer _ is (λ n h. of-Integer ds _ (day_fits n h))

-- ---- comparisons

-- a value that is of a flat type has a level
pub type_levels : (ds : Decls) → Levels (IsOf ds)
type_levels ds = record {
  truth = λ v h. let is = boolean_value ds v h in (is.0, ap value.out-Value is.1 ∙ value.outs-Boolean is.0);
  integer = λ v h. let is = integer_value ds v h in (is.0, ap value.out-Value is.1 ∙ value.outs-Integer is.0);
  decimal = λ v h. let is = decimal_value ds v h in (is.0, ap value.out-Value is.1 ∙ value.outs-Decimal is.0);
  money = λ v h. let is = money_value ds v h in (is.0, ap value.out-Value is.1 ∙ value.outs-Money is.0);
  date = λ v h. let is = date_value ds v h in (is.0, ap value.out-Value is.1 ∙ value.outs-Date is.0);
  duration = λ v h. let is = duration_value ds v h in (is.0, ap value.out-Value is.1 ∙ value.outs-Duration is.0);
  has_truth = λ a. of-Boolean ds a;
}

-- ---- what stands between two operands

two : {A B : Type 0} {t u : Ty} (ds : Decls) (v w : Value) (signature : Signature) (X : Reading ds A t)
    (Y : Reading ds B u)
    (x : Ty)
    (next : A → B → Result Value Stop) → IsOneOf signature (record { left = t; right = u; result = x } ∷ [])
    → IsOf ds signature.left v → IsOf ds signature.right w
    → ((a : A) (b : B) → X.Bound a → Y.Bound b → ResultsIn (IsOf ds x) (next a b))
    → ResultsIn (IsOf ds signature.result) (on_two (X.reading v) (Y.reading w) next)
two ds v w signature X Y x next (inl e) hv hw go =
    subst (λ q. ResultsIn (IsOf ds q) (on_two (X.reading v) (Y.reading w) next))
    (sym (ap (λ (y : Signature). y.result) e))
    (result_two X.Bound Y.Bound (IsOf ds x) (X.reading v) (Y.reading w) next
    (X.within v (subst (λ q. IsOf ds q v) (ap (λ (y : Signature). y.left) e) hv))
    (Y.within w (subst (λ q. IsOf ds q w) (ap (λ (y : Signature). y.right) e) hw)) go)
two ds v w signature X Y x next (inr none) hv hw go = elim none [ ]

-- an operator between two operands gives a value of the type of its signature, or a stop that an outcome may be
pub operators_go_on : (ds : Decls) (r : Rounding) (p : Pos) (v w : Value) (signature : Signature) (o : BinaryOp)
    → IsOneOf signature (signatures_of o)
    → IsOf ds signature.left v → IsOf ds signature.right w → ResultsIn (IsOf ds signature.result) (operate r o p v w)
operators_go_on ds r p v w signature binary.AddIntegers is hv hw =
    two ds v w signature (integers ds) (integers ds) ty.Integer _ is hv hw
    (λ a b ha hb. integer-is ds p (whole_sum a b) (λ c e. whole_fits (a +ℤ b) c e))
operators_go_on ds r p v w signature binary.SubtractIntegers is hv hw =
    two ds v w signature (integers ds) (integers ds) ty.Integer _ is hv hw
    (λ a b ha hb. integer-is ds p (whole_difference a b) (λ c e. whole_fits (a -ℤ b) c e))
operators_go_on ds r p v w signature binary.MultiplyIntegers is hv hw =
    two ds v w signature (integers ds) (integers ds) ty.Integer _ is hv hw
    (λ a b ha hb. integer-is ds p (whole_product a b) (λ c e. whole_fits (a *ℤ b) c e))
operators_go_on ds r p v w signature binary.DivideIntegers is hv hw =
    two ds v w signature (integers ds) (integers ds) ty.Decimal _ is hv hw
    (λ a b ha hb. decimal-is ds p (frac_of a b) (λ c e. frac_decimal a b c e))
operators_go_on ds r p v w signature binary.AddDecimals is hv hw =
    two ds v w signature (decimals ds) (decimals ds) ty.Decimal _ is hv hw
    (λ a b ha hb. decimal-is ds p (frac_sum a b) (λ c e. ratio_decimal _ _ c e))
operators_go_on ds r p v w signature binary.SubtractDecimals is hv hw =
    two ds v w signature (decimals ds) (decimals ds) ty.Decimal _ is hv hw
    (λ a b ha hb. decimal-is ds p (frac_difference a b) (λ c e. ratio_decimal _ _ c e))
operators_go_on ds r p v w signature binary.MultiplyDecimals is hv hw =
    two ds v w signature (decimals ds) (decimals ds) ty.Decimal _ is hv hw
    (λ a b ha hb. decimal-is ds p (frac_product a b) (λ c e. ratio_decimal _ _ c e))
operators_go_on ds r p v w signature binary.DivideDecimals is hv hw =
    two ds v w signature (decimals ds) (decimals ds) ty.Decimal _ is hv hw
    (λ a b ha hb. decimal-is ds p (frac_quotient a b) (λ c e. frac_decimal _ _ c e))
operators_go_on ds r p v w signature binary.AddMoney is hv hw =
    two ds v w signature (amounts ds) (amounts ds) ty.Money _ is hv hw
    (λ a b ha hb. money-is ds p (whole_sum a b) (λ c e. whole_fits (a +ℤ b) c e))
operators_go_on ds r p v w signature binary.SubtractMoney is hv hw =
    two ds v w signature (amounts ds) (amounts ds) ty.Money _ is hv hw
    (λ a b ha hb. money-is ds p (whole_difference a b) (λ c e. whole_fits (a -ℤ b) c e))
operators_go_on ds r p v w signature binary.MultiplyMoneyByDecimal is hv hw =
    two ds v w signature (amounts ds) (decimals ds) ty.Money _ is hv hw
    (λ a b ha hb. money-is ds p (money_product a b) (λ c e. whole_fits (rounded (a *ℤ b.num) b.den) c e))
operators_go_on ds r p v w signature binary.MultiplyDecimalByMoney is hv hw =
    two ds v w signature (decimals ds) (amounts ds) ty.Money _ is hv hw
    (λ a b ha hb. money-is ds p (money_product b a) (λ c e. whole_fits (rounded (b *ℤ a.num) a.den) c e))
operators_go_on ds r p v w signature binary.MultiplyMoneyByInteger is hv hw =
    two ds v w signature (amounts ds) (integers ds) ty.Money _ is hv hw
    (λ a b ha hb. money-is ds p (whole_product a b) (λ c e. whole_fits (a *ℤ b) c e))
operators_go_on ds r p v w signature binary.MultiplyIntegerByMoney is hv hw =
    two ds v w signature (integers ds) (amounts ds) ty.Money _ is hv hw
    (λ a b ha hb. money-is ds p (whole_product a b) (λ c e. whole_fits (a *ℤ b) c e))
operators_go_on ds r p v w signature binary.DivideMoneyByDecimal is hv hw =
    two ds v w signature (amounts ds) (decimals ds) ty.Money _ is hv hw
    (λ a b ha hb. money-is ds p (money_quotient a b) (λ c e. ratio_fits (a *ℤ pos b.den) b.num c e))
operators_go_on ds r p v w signature binary.DivideMoneyByInteger is hv hw =
    two ds v w signature (amounts ds) (integers ds) ty.Money _ is hv hw
    (λ a b ha hb. money-is ds p (rounded_ratio a b) (λ c e. ratio_fits a b c e))
operators_go_on ds r p v w signature binary.DivideMoney is hv hw =
    two ds v w signature (amounts ds) (amounts ds) ty.Decimal _ is hv hw
    (λ a b ha hb. decimal-is ds p (frac_of a b) (λ c e. frac_decimal a b c e))
operators_go_on ds r p v w signature binary.AddDurationToDate is hv hw =
    two ds v w signature (days ds) (spans ds) ty.Date _ is hv hw
    (λ a b ha hb. date-is ds p (day_plus_span a b r) (sum-dated a b r)
    (λ c e. sum_day (date_plus_months (civil_of a) b.months r) b.days c e))
operators_go_on ds r p v w signature binary.SubtractDurationFromDate is hv hw =
    two ds v w signature (days ds) (spans ds) ty.Date _ is hv hw
    (λ a b ha hb. date-is ds p (day_plus_span a (span_negated b) r) (sum-dated a (span_negated b) r)
    (λ c e. sum_day (date_plus_months (civil_of a) (span_negated b).months r) (span_negated b).days c e))
operators_go_on ds r p v w signature binary.AddDurations is hv hw =
    two ds v w signature (spans ds) (spans ds) ty.Duration _ is hv hw
    (λ a b ha hb. duration-is ds p _)
operators_go_on ds r p v w signature binary.SubtractDurations is hv hw =
    two ds v w signature (spans ds) (spans ds) ty.Duration _ is hv hw
    (λ a b ha hb. duration-is ds p _)
operators_go_on ds r p v w signature binary.MultiplyDurationByInteger is hv hw =
    two ds v w signature (spans ds) (integers ds) ty.Duration _ is hv hw
    (λ a b ha hb. duration-is ds p _)
operators_go_on ds r p v w signature binary.SubtractDates is hv hw =
    two ds v w signature (days ds) (days ds) ty.Duration _ is hv hw
    (λ a b ha hb. of-Duration ds (span_of_days (a -ℤ b)) (days_span a b ha hb))
operators_go_on ds r p v w signature binary.Xor is hv hw =
    two ds v w signature (truths ds) (truths ds) ty.Boolean _ is hv hw
    (λ a b ha hb. of-Boolean ds (differ a b))
operators_go_on ds r p v w signature binary.Less is hv hw =
    by_order (IsOf ds) (type_levels ds) p v w signature is_less is hv hw
operators_go_on ds r p v w signature binary.AtMost is hv hw =
    by_order (IsOf ds) (type_levels ds) p v w signature (λ x. not (is_greater x)) is hv hw
operators_go_on ds r p v w signature binary.Greater is hv hw =
    by_order (IsOf ds) (type_levels ds) p v w signature is_greater is hv hw
operators_go_on ds r p v w signature binary.AtLeast is hv hw =
    by_order (IsOf ds) (type_levels ds) p v w signature (λ x. not (is_less x)) is hv hw
operators_go_on ds r p v w signature binary.Equal is hv hw =
    by_equality (IsOf ds) (type_levels ds) p v w signature (λ x. x) is hv hw
operators_go_on ds r p v w signature binary.Unequal is hv hw =
    by_equality (IsOf ds) (type_levels ds) p v w signature not is hv hw
