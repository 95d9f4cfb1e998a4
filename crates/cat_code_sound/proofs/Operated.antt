-- No operator is stuck on values of the types that it takes: it gives a value of the type of its result, or a fault.
use Rattle.std.proofs.Common.{◌≡◌, inl, inr, ℤ, pos, ◌-ℤ◌, neg_ℤ, Bool, not, [], ◌∷◌, Result, sym}
use Rattle.std.proofs.Common.{ap, subst}
use Rattle.cat_pos.specs.declared.pos.Pos.{Pos}
use Rattle.cat_num.specs.declared.fault.NumFault.{NumFault}
use Rattle.cat_num.specs.Whole.{whole_sum, whole_difference, whole_product}
use Rattle.cat_num.specs.Frac.{Fraction, lowest, frac_of, frac_sum, frac_difference, frac_product, frac_quotient}
use Rattle.cat_num.specs.Frac.{frac_negation}
use Rattle.cat_num.specs.Rounding.{rounded, truncated, rounded_ratio, money_product, money_quotient, whole_units}
use Rattle.cat_date.specs.declared.fault.DateFault.{DateFault}
use Rattle.cat_date.specs.declared.rounding.Rounding.{Rounding}
use Rattle.cat_date.specs.Calendar.{civil_of}
use Rattle.cat_date.specs.Add.{day_plus_span}
use Rattle.cat_date.specs.Span.{SpanOf, span_in_range, span_of_days, span_negated}
use Rattle.cat_value.specs.declared.ty.Ty.{Ty}
use Rattle.cat_value.specs.declared.ty.Ty.TheVariants as ty
use Rattle.cat_value.specs.declared.value.Value.{Value}
use Rattle.cat_value.specs.declared.value.Value.TheOpen.{Value-F}
use Rattle.cat_value.specs.declared.value.Value.TheVariants as flat
use Rattle.cat_value.specs.declared.value.Value.TheViews as value
use Rattle.cat_value.specs.declared.decls.Decls.{Decls}
use Rattle.cat_scope.specs.declared.operators.UnaryOp.{UnaryOp}
use Rattle.cat_scope.specs.declared.operators.UnaryOp.TheVariants as unary
use Rattle.cat_scope.specs.declared.operators.BinaryOp.{BinaryOp}
use Rattle.cat_scope.specs.declared.operators.BinaryOp.TheVariants as binary
use Rattle.cat_scope.specs.declared.stop.Stop.{Stop}
use Rattle.cat_scope.specs.Replies.{on_one, exact, dated}
use Rattle.cat_scope.specs.Projections as read
use Rattle.cat_scope.specs.Operators.{on_two, over_one, convert, operate}
use Rattle.cat_scope.specs.Comparing.{differ, is_less, is_greater}
use Rattle.cat_scope.specs.Names.{IsOneOf}
use Rattle.cat_scope.specs.Signatures.{Signature, signatures_of, taken_by}
use Rattle.cat_scope.specs.Signatures.{given_by}
use Rattle.cat_sound.specs.Endings.{ResultsIn}
use Rattle.cat_sound.proofs.Comparisons.{Levels, by_order, by_equality, truth_read, integer_read, decimal_read}
use Rattle.cat_sound.proofs.Comparisons.{money_read, date_read, duration_read}
use Rattle.cat_sound.proofs.Results.{Any, result_then, result_two, result_exact}
use Rattle.cat_sound.proofs.FlatTypes.{IsDated, result_dated, range-dated, sum-dated}
use Rattle.cat_code.specs.Forms.{Form, form_of}
use Rattle.cat_code.specs.Forms as forms
use Rattle.cat_code.proofs.FormLaws.{form_Boolean, form_Integer, form_Decimal, form_Money, form_Date, form_Duration}
use Rattle.cat_code_sound.proofs.ValueKinds.{IsOf, reads_truth, reads_whole, reads_fraction, reads_amount, reads_day}
use Rattle.cat_code_sound.proofs.ValueKinds.{reads_span, of_truth, of_whole, of_fraction, of_amount, of_day, of_span}

-- a value of a declared type
abbrev pub Has : Decls → Ty → Value → Type 0
Has ds t v = IsOf ds (form_of ds t) v

seen_as : (ds : Decls) (t u : Form) (v : Value) → t ≡ u → IsOf ds t v → IsOf ds u v
seen_as ds t u v e h = subst (λ (f : Form). IsOf ds f v) e h

-- ---- flat types: the level of a value, and values of them

level-Boolean : (ds : Decls) (v : Value) → Has ds ty.Boolean v → (a : Bool) × (value.out-Value v ≡ Value-F.Boolean a)
level-Boolean ds v h = reads_truth ds v (seen_as ds (form_of ds ty.Boolean) forms.Truth v (form_Boolean ds) h)

reads-Boolean : (ds : Decls) (v : Value) → Has ds ty.Boolean v → ResultsIn (Any {A = Bool}) (read.truth v)
reads-Boolean ds v h = truth_read v (level-Boolean ds v h)

has-Boolean : (ds : Decls) (a : Bool) → Has ds ty.Boolean (flat.Boolean a)
has-Boolean ds a =
    seen_as ds forms.Truth (form_of ds ty.Boolean) (flat.Boolean a) (sym (form_Boolean ds)) (of_truth ds a)

level-Integer : (ds : Decls) (v : Value) → Has ds ty.Integer v → (a : ℤ) × (value.out-Value v ≡ Value-F.Integer a)
level-Integer ds v h = reads_whole ds v (seen_as ds (form_of ds ty.Integer) forms.Whole v (form_Integer ds) h)

reads-Integer : (ds : Decls) (v : Value) → Has ds ty.Integer v → ResultsIn (Any {A = ℤ}) (read.integer v)
reads-Integer ds v h = integer_read v (level-Integer ds v h)

has-Integer : (ds : Decls) (a : ℤ) → Has ds ty.Integer (flat.Integer a)
has-Integer ds a =
    seen_as ds forms.Whole (form_of ds ty.Integer) (flat.Integer a) (sym (form_Integer ds)) (of_whole ds a)

level-Decimal : (ds : Decls) (v : Value) → Has ds ty.Decimal v
    → (a : Fraction) × (value.out-Value v ≡ Value-F.Decimal a)
level-Decimal ds v h = reads_fraction ds v (seen_as ds (form_of ds ty.Decimal) forms.Fraction v (form_Decimal ds) h)

reads-Decimal : (ds : Decls) (v : Value) → Has ds ty.Decimal v → ResultsIn (Any {A = Fraction}) (read.decimal v)
reads-Decimal ds v h = decimal_read v (level-Decimal ds v h)

has-Decimal : (ds : Decls) (a : Fraction) → Has ds ty.Decimal (flat.Decimal a)
has-Decimal ds a =
    seen_as ds forms.Fraction (form_of ds ty.Decimal) (flat.Decimal a) (sym (form_Decimal ds)) (of_fraction ds a)

level-Money : (ds : Decls) (v : Value) → Has ds ty.Money v → (a : ℤ) × (value.out-Value v ≡ Value-F.Money a)
level-Money ds v h = reads_amount ds v (seen_as ds (form_of ds ty.Money) forms.Amount v (form_Money ds) h)

reads-Money : (ds : Decls) (v : Value) → Has ds ty.Money v → ResultsIn (Any {A = ℤ}) (read.money v)
reads-Money ds v h = money_read v (level-Money ds v h)

has-Money : (ds : Decls) (a : ℤ) → Has ds ty.Money (flat.Money a)
has-Money ds a = seen_as ds forms.Amount (form_of ds ty.Money) (flat.Money a) (sym (form_Money ds)) (of_amount ds a)

level-Date : (ds : Decls) (v : Value) → Has ds ty.Date v → (a : ℤ) × (value.out-Value v ≡ Value-F.Date a)
level-Date ds v h = reads_day ds v (seen_as ds (form_of ds ty.Date) forms.Day v (form_Date ds) h)

reads-Date : (ds : Decls) (v : Value) → Has ds ty.Date v → ResultsIn (Any {A = ℤ}) (read.date v)
reads-Date ds v h = date_read v (level-Date ds v h)

has-Date : (ds : Decls) (a : ℤ) → Has ds ty.Date (flat.Date a)
has-Date ds a = seen_as ds forms.Day (form_of ds ty.Date) (flat.Date a) (sym (form_Date ds)) (of_day ds a)

level-Duration : (ds : Decls) (v : Value) → Has ds ty.Duration v
    → (a : SpanOf) × (value.out-Value v ≡ Value-F.Duration a)
level-Duration ds v h = reads_span ds v (seen_as ds (form_of ds ty.Duration) forms.Span v (form_Duration ds) h)

reads-Duration : (ds : Decls) (v : Value) → Has ds ty.Duration v → ResultsIn (Any {A = SpanOf}) (read.duration v)
reads-Duration ds v h = duration_read v (level-Duration ds v h)

has-Duration : (ds : Decls) (a : SpanOf) → Has ds ty.Duration (flat.Duration a)
has-Duration ds a =
    seen_as ds forms.Span (form_of ds ty.Duration) (flat.Duration a) (sym (form_Duration ds)) (of_span ds a)

-- ---- what stands before one operand

one : {A : Type 0} (ds : Decls) (u : Ty) (r : Result A Stop) (next : A → Result Value Stop) → ResultsIn (Any {A = A}) r
    → ((a : A) → ResultsIn (Has ds u) (next a)) → ResultsIn (Has ds u) (on_one r next)
one ds u r next h go = result_then Any (Has ds u) r next h (λ a any. go a)

-- what is exact, or its fault
module _ (ds : Decls) (p : Pos) where
  integer-is : (r : Result ℤ NumFault) → ResultsIn (Has ds ty.Integer) (exact p flat.Integer r)
  integer-is r = result_exact (Has ds ty.Integer) p flat.Integer r (λ c is. has-Integer ds c)

  decimal-is : (r : Result Fraction NumFault) → ResultsIn (Has ds ty.Decimal) (exact p flat.Decimal r)
  decimal-is r = result_exact (Has ds ty.Decimal) p flat.Decimal r (λ c is. has-Decimal ds c)

  money-is : (r : Result ℤ NumFault) → ResultsIn (Has ds ty.Money) (exact p flat.Money r)
  money-is r = result_exact (Has ds ty.Money) p flat.Money r (λ c is. has-Money ds c)

  date-is : (r : Result ℤ DateFault) → IsDated r → ResultsIn (Has ds ty.Date) (dated p flat.Date r)
  date-is r day = result_dated (Has ds ty.Date) p flat.Date r day (λ c is. has-Date ds c)

  duration-is : (s : SpanOf) → ResultsIn (Has ds ty.Duration) (dated p flat.Duration (span_in_range s))
  duration-is s =
      result_dated (Has ds ty.Duration) p flat.Duration (span_in_range s) (range-dated s) (λ c is. has-Duration ds c)

-- an operator before one operand
pub conversions_go_on : (ds : Decls) (p : Pos) (v : Value) (o : UnaryOp) → Has ds (taken_by o) v
    → ResultsIn (Has ds (given_by o)) (convert o p v)
conversions_go_on ds p v unary.NegateInteger is =
    one ds ty.Integer (read.integer v) _ (reads-Integer ds v is) (λ a. has-Integer ds (neg_ℤ a))
conversions_go_on ds p v unary.NegateDecimal is =
    one ds ty.Decimal (read.decimal v) _ (reads-Decimal ds v is) (λ a. has-Decimal ds (frac_negation a))
conversions_go_on ds p v unary.NegateMoney is =
    one ds ty.Money (read.money v) _ (reads-Money ds v is) (λ a. has-Money ds (neg_ℤ a))
conversions_go_on ds p v unary.NegateDuration is =
    one ds ty.Duration (read.duration v) _ (reads-Duration ds v is) (λ a. has-Duration ds (span_negated a))
conversions_go_on ds p v unary.Not is =
    one ds ty.Boolean (read.truth v) _ (reads-Boolean ds v is) (λ a. has-Boolean ds (not a))
conversions_go_on ds p v unary.IntegerOfDecimal is =
    one ds ty.Integer (read.decimal v) _ (reads-Decimal ds v is) (λ a. has-Integer ds (truncated a.num a.den))
conversions_go_on ds p v unary.DecimalOfInteger is =
    one ds ty.Decimal (read.integer v) _ (reads-Integer ds v is) (λ a. has-Decimal ds (over_one a))
conversions_go_on ds p v unary.DecimalOfMoney is =
    one ds ty.Decimal (read.money v) _ (reads-Money ds v is) (λ a. has-Decimal ds (lowest a 100))
conversions_go_on ds p v unary.MoneyOfDecimal is =
    one ds ty.Money (read.decimal v) _ (reads-Decimal ds v is) (λ a. money-is ds p (money_product (pos 100) a))
conversions_go_on ds p v unary.MoneyOfInteger is =
    one ds ty.Money (read.integer v) _ (reads-Integer ds v is) (λ a. money-is ds p (whole_product a (pos 100)))
conversions_go_on ds p v unary.RoundDecimal is =
    one ds ty.Decimal (read.decimal v) _ (reads-Decimal ds v is) (λ a. has-Decimal ds (over_one (rounded a.num a.den)))
conversions_go_on ds p v unary.RoundMoney is =
    one ds ty.Money (read.money v) _ (reads-Money ds v is) (λ a. has-Money ds (whole_units a))
conversions_go_on ds p v unary.YearOfDate is =
    one ds ty.Integer (read.date v) _ (reads-Date ds v is) (λ a. has-Integer ds (civil_of a).year)
conversions_go_on ds p v unary.MonthOfDate is =
    one ds ty.Integer (read.date v) _ (reads-Date ds v is) (λ a. has-Integer ds (pos (civil_of a).month))
conversions_go_on ds p v unary.DayOfDate is =
    one ds ty.Integer (read.date v) _ (reads-Date ds v is) (λ a. has-Integer ds (pos (civil_of a).day))

-- ---- comparisons

-- a value that a declared flat type has has a level
has_levels : (ds : Decls) → Levels (Has ds)
has_levels ds = record {
  truth = level-Boolean ds;
  integer = level-Integer ds;
  decimal = level-Decimal ds;
  money = level-Money ds;
  date = level-Date ds;
  duration = level-Duration ds;
  has_truth = has-Boolean ds;
}

-- ---- what stands between two operands

two : {A B : Type 0} (ds : Decls) (v w : Value) (signature : Signature) (t u x : Ty) (left : Value → Result A Stop)
    (right : Value → Result B Stop) (next : A → B → Result Value Stop)
    → IsOneOf signature (record { left = t; right = u; result = x } ∷ [])
    → Has ds signature.left v → Has ds signature.right w
    → (Has ds t v → ResultsIn (Any {A = A}) (left v)) → (Has ds u w → ResultsIn (Any {A = B}) (right w))
    → ((a : A) (b : B) → ResultsIn (Has ds x) (next a b))
    → ResultsIn (Has ds signature.result) (on_two (left v) (right w) next)
two ds v w signature t u x left right next (inl e) hv hw reads_left reads_right go =
    subst (λ q. ResultsIn (Has ds q) (on_two (left v) (right w) next))
    (sym (ap (λ (y : Signature). y.result) e))
    (result_two Any Any (Has ds x) (left v) (right w) next
    (reads_left (subst (λ q. Has ds q v) (ap (λ (y : Signature). y.left) e) hv))
    (reads_right (subst (λ q. Has ds q w) (ap (λ (y : Signature). y.right) e) hw)) (λ a b any other. go a b))
two ds v w signature t u x left right next (inr none) hv hw reads_left reads_right go = elim none [ ]

-- an operator between two operands
pub operators_go_on : (ds : Decls) (r : Rounding) (p : Pos) (v w : Value) (signature : Signature) (o : BinaryOp)
    → IsOneOf signature (signatures_of o) → Has ds signature.left v → Has ds signature.right w
    → ResultsIn (Has ds signature.result) (operate r o p v w)
operators_go_on ds r p v w signature binary.AddIntegers is hv hw =
    two ds v w signature ty.Integer ty.Integer ty.Integer read.integer read.integer _ is hv hw (reads-Integer ds v)
    (reads-Integer ds w)
    (λ a b. integer-is ds p (whole_sum a b))
operators_go_on ds r p v w signature binary.SubtractIntegers is hv hw =
    two ds v w signature ty.Integer ty.Integer ty.Integer read.integer read.integer _ is hv hw (reads-Integer ds v)
    (reads-Integer ds w)
    (λ a b. integer-is ds p (whole_difference a b))
operators_go_on ds r p v w signature binary.MultiplyIntegers is hv hw =
    two ds v w signature ty.Integer ty.Integer ty.Integer read.integer read.integer _ is hv hw (reads-Integer ds v)
    (reads-Integer ds w)
    (λ a b. integer-is ds p (whole_product a b))
operators_go_on ds r p v w signature binary.DivideIntegers is hv hw =
    two ds v w signature ty.Integer ty.Integer ty.Decimal read.integer read.integer _ is hv hw (reads-Integer ds v)
    (reads-Integer ds w)
    (λ a b. decimal-is ds p (frac_of a b))
operators_go_on ds r p v w signature binary.AddDecimals is hv hw =
    two ds v w signature ty.Decimal ty.Decimal ty.Decimal read.decimal read.decimal _ is hv hw (reads-Decimal ds v)
    (reads-Decimal ds w)
    (λ a b. decimal-is ds p (frac_sum a b))
operators_go_on ds r p v w signature binary.SubtractDecimals is hv hw =
    two ds v w signature ty.Decimal ty.Decimal ty.Decimal read.decimal read.decimal _ is hv hw (reads-Decimal ds v)
    (reads-Decimal ds w)
    (λ a b. decimal-is ds p (frac_difference a b))
operators_go_on ds r p v w signature binary.MultiplyDecimals is hv hw =
    two ds v w signature ty.Decimal ty.Decimal ty.Decimal read.decimal read.decimal _ is hv hw (reads-Decimal ds v)
    (reads-Decimal ds w)
    (λ a b. decimal-is ds p (frac_product a b))
operators_go_on ds r p v w signature binary.DivideDecimals is hv hw =
    two ds v w signature ty.Decimal ty.Decimal ty.Decimal read.decimal read.decimal _ is hv hw (reads-Decimal ds v)
    (reads-Decimal ds w)
    (λ a b. decimal-is ds p (frac_quotient a b))
operators_go_on ds r p v w signature binary.AddMoney is hv hw =
    two ds v w signature ty.Money ty.Money ty.Money read.money read.money _ is hv hw (reads-Money ds v)
    (reads-Money ds w)
    (λ a b. money-is ds p (whole_sum a b))
operators_go_on ds r p v w signature binary.SubtractMoney is hv hw =
    two ds v w signature ty.Money ty.Money ty.Money read.money read.money _ is hv hw (reads-Money ds v)
    (reads-Money ds w)
    (λ a b. money-is ds p (whole_difference a b))
operators_go_on ds r p v w signature binary.MultiplyMoneyByDecimal is hv hw =
    two ds v w signature ty.Money ty.Decimal ty.Money read.money read.decimal _ is hv hw (reads-Money ds v)
    (reads-Decimal ds w)
    (λ a b. money-is ds p (money_product a b))
operators_go_on ds r p v w signature binary.MultiplyDecimalByMoney is hv hw =
    two ds v w signature ty.Decimal ty.Money ty.Money read.decimal read.money _ is hv hw (reads-Decimal ds v)
    (reads-Money ds w)
    (λ a b. money-is ds p (money_product b a))
operators_go_on ds r p v w signature binary.MultiplyMoneyByInteger is hv hw =
    two ds v w signature ty.Money ty.Integer ty.Money read.money read.integer _ is hv hw (reads-Money ds v)
    (reads-Integer ds w)
    (λ a b. money-is ds p (whole_product a b))
operators_go_on ds r p v w signature binary.MultiplyIntegerByMoney is hv hw =
    two ds v w signature ty.Integer ty.Money ty.Money read.integer read.money _ is hv hw (reads-Integer ds v)
    (reads-Money ds w)
    (λ a b. money-is ds p (whole_product a b))
operators_go_on ds r p v w signature binary.DivideMoneyByDecimal is hv hw =
    two ds v w signature ty.Money ty.Decimal ty.Money read.money read.decimal _ is hv hw (reads-Money ds v)
    (reads-Decimal ds w)
    (λ a b. money-is ds p (money_quotient a b))
operators_go_on ds r p v w signature binary.DivideMoneyByInteger is hv hw =
    two ds v w signature ty.Money ty.Integer ty.Money read.money read.integer _ is hv hw (reads-Money ds v)
    (reads-Integer ds w)
    (λ a b. money-is ds p (rounded_ratio a b))
operators_go_on ds r p v w signature binary.DivideMoney is hv hw =
    two ds v w signature ty.Money ty.Money ty.Decimal read.money read.money _ is hv hw (reads-Money ds v)
    (reads-Money ds w)
    (λ a b. decimal-is ds p (frac_of a b))
operators_go_on ds r p v w signature binary.AddDurationToDate is hv hw =
    two ds v w signature ty.Date ty.Duration ty.Date read.date read.duration _ is hv hw (reads-Date ds v)
    (reads-Duration ds w)
    (λ a b. date-is ds p (day_plus_span a b r) (sum-dated a b r))
operators_go_on ds r p v w signature binary.SubtractDurationFromDate is hv hw =
    two ds v w signature ty.Date ty.Duration ty.Date read.date read.duration _ is hv hw (reads-Date ds v)
    (reads-Duration ds w)
    (λ a b. date-is ds p (day_plus_span a (span_negated b) r) (sum-dated a (span_negated b) r))
operators_go_on ds r p v w signature binary.SubtractDates is hv hw =
    two ds v w signature ty.Date ty.Date ty.Duration read.date read.date _ is hv hw (reads-Date ds v) (reads-Date ds w)
    (λ a b. has-Duration ds (span_of_days (a -ℤ b)))
operators_go_on ds r p v w signature binary.AddDurations is hv hw =
    two ds v w signature ty.Duration ty.Duration ty.Duration read.duration read.duration _ is hv hw
    (reads-Duration ds v) (reads-Duration ds w)
    (λ a b. duration-is ds p _)
operators_go_on ds r p v w signature binary.SubtractDurations is hv hw =
    two ds v w signature ty.Duration ty.Duration ty.Duration read.duration read.duration _ is hv hw
    (reads-Duration ds v) (reads-Duration ds w)
    (λ a b. duration-is ds p _)
operators_go_on ds r p v w signature binary.MultiplyDurationByInteger is hv hw =
    two ds v w signature ty.Duration ty.Integer ty.Duration read.duration read.integer _ is hv hw (reads-Duration ds v)
    (reads-Integer ds w)
    (λ a b. duration-is ds p _)
operators_go_on ds r p v w signature binary.Xor is hv hw =
    two ds v w signature ty.Boolean ty.Boolean ty.Boolean read.truth read.truth _ is hv hw (reads-Boolean ds v)
    (reads-Boolean ds w)
    (λ a b. has-Boolean ds (differ a b))
operators_go_on ds r p v w signature binary.Less is hv hw =
    by_order (Has ds) (has_levels ds) p v w signature is_less is hv hw
operators_go_on ds r p v w signature binary.AtMost is hv hw =
    by_order (Has ds) (has_levels ds) p v w signature (λ x. not (is_greater x)) is hv hw
operators_go_on ds r p v w signature binary.Greater is hv hw =
    by_order (Has ds) (has_levels ds) p v w signature is_greater is hv hw
operators_go_on ds r p v w signature binary.AtLeast is hv hw =
    by_order (Has ds) (has_levels ds) p v w signature (λ x. not (is_less x)) is hv hw
operators_go_on ds r p v w signature binary.Equal is hv hw =
    by_equality (Has ds) (has_levels ds) p v w signature (λ x. x) is hv hw
operators_go_on ds r p v w signature binary.Unequal is hv hw =
    by_equality (Has ds) (has_levels ds) p v w signature (λ x. not x) is hv hw
