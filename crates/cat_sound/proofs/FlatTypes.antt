-- Values of flat types: what they are read as, and that the results of dates are no refusals as no day.
use Rattle.std.proofs.Common.{◌≡◌, ℕ, ℤ, pos, ◌+◌, ◌/◌, ◌%◌, ◌+ℤ◌, unsigned_abs, nat_le, Bool, true, false, ◌&&◌}
use Rattle.std.proofs.Common.{IsTrue, Result, Ok, Err, refl, ap, ◌∙◌, if◌then◌else◌}
use Rattle.std.specs.Ordering.{int_eq, int_cmp}
use Rattle.cat_pos.specs.declared.pos.Pos.{Pos}
use Rattle.cat_num.specs.Whole.{fits}
use Rattle.cat_num.specs.Frac.{Fraction}
use Rattle.cat_date.specs.declared.fault.DateFault.{DateFault}
use Rattle.cat_date.specs.declared.fault.DateFault.TheVariants as date
use Rattle.cat_date.specs.declared.rounding.Rounding.{Rounding}
use Rattle.cat_date.specs.declared.rounding.Rounding.TheVariants.{Up, Down, Refuse}
use Rattle.cat_date.specs.Calendar.{CivilDate, civil_of, is_day, day_number}
use Rattle.cat_date.specs.Add.{day_plus_span, date_plus_months, day_of_month, month_index, is_month_index, plus_days}
use Rattle.cat_date.specs.Add.{past_month_end}
use Rattle.cat_date.specs.Span.{SpanOf, is_span, span_in_range, compared_spans}
use Rattle.cat_value.specs.declared.ty.Ty.TheVariants as ty
use Rattle.cat_value.specs.declared.ty.Ty.TheViews as ty_view
use Rattle.cat_value.specs.declared.value.Value.{Value}
use Rattle.cat_value.specs.declared.value.Value.TheVariants as flat
use Rattle.cat_value.specs.declared.value.Value.TheViews as value
use Rattle.cat_value.specs.declared.decls.Decls.{Decls}
use Rattle.cat_value.specs.Flat.{is_decimal, integer_typed, decimal_typed, money_typed, date_typed, duration_typed}
use Rattle.cat_value.specs.Declarations.{is_boolean}
use Rattle.cat_value.proofs.Exported.{has_type_Boolean, has_type_Integer, has_type_Decimal, has_type_Money}
use Rattle.cat_value.proofs.Exported.{has_type_Date, has_type_Duration, integer_value, decimal_value, money_value}
use Rattle.cat_value.proofs.Exported.{date_value, duration_value}
use Rattle.cat_num.specs.Numerals.{numeral_value}
use Rattle.cat_scope.specs.declared.expr.Literal.{Literal}
use Rattle.cat_scope.specs.declared.expr.Literal.TheVariants as literal
use Rattle.cat_scope.specs.Literals.{literal_type, literal_fits}
use Rattle.cat_scope.specs.Composed.{literal_value}
use Rattle.cat_scope.specs.Replies.{dated}
use Rattle.cat_scope.specs.Projections as read
use Rattle.cat_sound.specs.Endings.{ResultsIn, IsOf}
use Rattle.cat_sound.proofs.Fits.{numeral_decimal}
use Rattle.cat_sound.proofs.Results.{result_as}

-- a number, a fraction, a day and a duration in their ranges
abbrev pub Whole : ℤ → Type 0
Whole n = IsTrue (fits n)

abbrev pub Frac : Fraction → Type 0
Frac f = IsTrue (is_decimal f)

abbrev pub Day : ℤ → Type 0
Day n = IsTrue (is_day n)

abbrev pub Span : SpanOf → Type 0
Span s = IsTrue (is_span s)

pub of-Boolean : (ds : Decls) (b : Bool) → IsOf ds ty.Boolean (flat.Boolean b)
of-Boolean ds b = has_type_Boolean ds b ty.Boolean ∙ ap is_boolean ty_view.outs-Boolean

pub of-Integer : (ds : Decls) (n : ℤ) → Whole n → IsOf ds ty.Integer (flat.Integer n)
of-Integer ds n h = has_type_Integer ds n ty.Integer ∙ ap (integer_typed n) ty_view.outs-Integer ∙ h

pub reads-Integer : (ds : Decls) (v : Value) → IsOf ds ty.Integer v → ResultsIn Whole (read.integer v)
reads-Integer ds v h =
    let is = integer_value ds v h in
    result_as Whole (read.integer v) (Ok is.0)
    (ap read.integer is.1 ∙ ap read.integer_in (value.outs-Integer is.0)) is.2

pub of-Decimal : (ds : Decls) (f : Fraction) → Frac f → IsOf ds ty.Decimal (flat.Decimal f)
of-Decimal ds f h = has_type_Decimal ds f ty.Decimal ∙ ap (decimal_typed f) ty_view.outs-Decimal ∙ h

pub reads-Decimal : (ds : Decls) (v : Value) → IsOf ds ty.Decimal v → ResultsIn Frac (read.decimal v)
reads-Decimal ds v h =
    let is = decimal_value ds v h in
    result_as Frac (read.decimal v) (Ok is.0) (ap read.decimal is.1 ∙ ap read.decimal_in (value.outs-Decimal is.0)) is.2

pub of-Money : (ds : Decls) (n : ℤ) → Whole n → IsOf ds ty.Money (flat.Money n)
of-Money ds n h = has_type_Money ds n ty.Money ∙ ap (money_typed n) ty_view.outs-Money ∙ h

pub reads-Money : (ds : Decls) (v : Value) → IsOf ds ty.Money v → ResultsIn Whole (read.money v)
reads-Money ds v h =
    let is = money_value ds v h in
    result_as Whole (read.money v) (Ok is.0) (ap read.money is.1 ∙ ap read.money_in (value.outs-Money is.0)) is.2

pub of-Date : (ds : Decls) (n : ℤ) → Day n → IsOf ds ty.Date (flat.Date n)
of-Date ds n h = has_type_Date ds n ty.Date ∙ ap (date_typed n) ty_view.outs-Date ∙ h

pub reads-Date : (ds : Decls) (v : Value) → IsOf ds ty.Date v → ResultsIn Day (read.date v)
reads-Date ds v h =
    let is = date_value ds v h in
    result_as Day (read.date v) (Ok is.0) (ap read.date is.1 ∙ ap read.date_in (value.outs-Date is.0)) is.2

pub of-Duration : (ds : Decls) (s : SpanOf) → Span s → IsOf ds ty.Duration (flat.Duration s)
of-Duration ds s h = has_type_Duration ds s ty.Duration ∙ ap (duration_typed s) ty_view.outs-Duration ∙ h

pub reads-Duration : (ds : Decls) (v : Value) → IsOf ds ty.Duration v → ResultsIn Span (read.duration v)
reads-Duration ds v h =
    let is = duration_value ds v h in
    result_as Span (read.duration v) (Ok is.0)
    (ap read.duration is.1 ∙ ap read.duration_in (value.outs-Duration is.0)) is.2

-- a result of dates that is not refused as no day
abbrev pub IsDated : {A : Type 0} → Result A DateFault → Type 0
IsDated (Ok a) = Unit {0}
IsDated (Err date.Overflow) = Unit {0}
IsDated (Err date.AmbiguousDate) = Unit {0}
IsDated (Err date.Uncomparable) = Unit {0}
IsDated (Err date.NotADay) = ⊥

pub result_dated : {A B : Type 0} (P : B → Type 0) (p : Pos) (make : A → B) (r : Result A DateFault) → IsDated r
    → ((a : A) → r ≡ Ok a → P (make a)) → ResultsIn P (dated p make r)
result_dated P p make (Ok a) h go = go a refl
result_dated P p make (Err date.Overflow) h go = tt
result_dated P p make (Err date.AmbiguousDate) h go = tt
result_dated P p make (Err date.Uncomparable) h go = tt
result_dated P p make (Err date.NotADay) h go = elim h [ ]

if_dated : {A : Type 0} (b : Bool) (x y : Result A DateFault) → IsDated x → IsDated y → IsDated (if b then x else y)
if_dated true x y hx hy = hx
if_dated false x y hx hy = hy

pub range-dated : (s : SpanOf) → IsDated (span_in_range s)
unfolding span_in_range
range-dated s = if_dated (is_span s) (Ok s) (Err date.Overflow) tt tt

month_end-dated : (r : Rounding) (last : ℤ) → IsDated (past_month_end r last)
month_end-dated Up last = tt
month_end-dated Down last = tt
month_end-dated Refuse last = tt

month-dated : (n : ℕ) (r : Rounding) (y : ℤ) (m d : ℕ)
    → IsDated (if nat_le d n then Ok (day_number y m d) else past_month_end r (day_number y m n))
month-dated n r y m d =
    if_dated (nat_le d n) (Ok (day_number y m d)) (past_month_end r (day_number y m n)) tt
    (month_end-dated r (day_number y m n))

day_of_month-dated : (r : Rounding) (y : ℤ) (m d : ℕ) → IsDated (day_of_month r y m d)
unfolding day_of_month
day_of_month-dated r y m d = month-dated _ r y m d

plus_months-dated : (c : CivilDate) (months : ℤ) (r : Rounding) → IsDated (date_plus_months c months r)
unfolding date_plus_months
plus_months-dated c months r =
    let i = month_index c months in
    if_dated (is_month_index i) (day_of_month r (pos (unsigned_abs i / 12)) (unsigned_abs i % 12 + 1) c.day)
    (Err date.Overflow)
    (day_of_month-dated r (pos (unsigned_abs i / 12)) (unsigned_abs i % 12 + 1) c.day) tt

plus_days-dated : (r : Result ℤ DateFault) (days : ℤ) → IsDated r → IsDated (plus_days r days)
plus_days-dated (Ok day) days h = if_dated (is_day (day +ℤ days)) (Ok (day +ℤ days)) (Err date.Overflow) tt tt
plus_days-dated (Err fault) days h = h

pub sum-dated : (day : ℤ) (span : SpanOf) (r : Rounding) → IsDated (day_plus_span day span r)
sum-dated day span r =
    plus_days-dated (date_plus_months (civil_of day) span.months r) span.days
    (plus_months-dated (civil_of day) span.months r)

pub compared-dated : (a b : SpanOf) → IsDated (compared_spans a b)
unfolding compared_spans
compared-dated a b =
    if_dated (int_eq a.days (pos 0) && int_eq b.days (pos 0)) (Ok (int_cmp a.months b.months))
    (if int_eq a.months (pos 0) && int_eq b.months (pos 0) then Ok (int_cmp a.days b.days) else Err date.Uncomparable)
    tt
    (if_dated (int_eq a.months (pos 0) && int_eq b.months (pos 0)) (Ok (int_cmp a.days b.days))
    (Err date.Uncomparable) tt tt)

-- a literal within its bound is a value of its type
pub literal-typed : (ds : Decls) (l : Literal) → IsTrue (literal_fits l) → IsOf ds (literal_type l) (literal_value l)
literal-typed ds (literal.Boolean b) h = of-Boolean ds b
literal-typed ds (literal.Integer n) h = of-Integer ds n h
literal-typed ds (literal.Decimal d) h = of-Decimal ds (numeral_value d) (numeral_decimal d h)
literal-typed ds (literal.Money n) h = of-Money ds n h
literal-typed ds (literal.Date n) h = of-Date ds n h
literal-typed ds (literal.Duration s) h = of-Duration ds s h
