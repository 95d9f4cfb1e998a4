-- Values that have no parts, and what an operator gives on them.
use Rattle.std.specs.Prelude.{ℤ, Bool, Result, Ok, Err}
use Rattle.cat_pos.specs.declared.pos.Pos.{Pos}
use Rattle.cat_num.specs.Frac.{Fraction}
use Rattle.cat_num.specs.declared.fault.NumFault.{NumFault}
use Rattle.cat_num.specs.declared.fault.NumFault.TheVariants as num
use Rattle.cat_date.specs.Span.{SpanOf}
use Rattle.cat_date.specs.declared.fault.DateFault.{DateFault}
use Rattle.cat_date.specs.declared.fault.DateFault.TheVariants as date
use Rattle.cat_value.specs.declared.value.Value.{Value}
use Rattle.cat_value.specs.declared.value.Value.TheOpen.{Value-F}
use Rattle.cat_value.specs.declared.value.Value.TheVariants as flat
use Rattle.cat_value.specs.declared.value.Value.TheViews.{out-Value}
use Rattle.cat_value.specs.declared.outcome.FaultKind.TheVariants as kind
use Rattle.cat_scope.specs.declared.stop.Stop.{Stop}
use Rattle.cat_scope.specs.declared.stop.Stop.TheVariants as stop
use Rattle.cat_scope.specs.Replies.{Reply}
use Rattle.cat_scalar.specs.declared.scalar.Scalar.{Scalar}
use Rattle.cat_scalar.specs.declared.scalar.Scalar.TheVariants as scalar
use Rattle.cat_scalar.specs.declared.scalar.NoResult.{NoResult}
use Rattle.cat_scalar.specs.declared.scalar.NoResult.TheVariants as result

-- the scalar in one level of a value
abbrev pub scalar_in : Value-F Value → Scalar
scalar_in (Value-F.Boolean b) = scalar.Boolean b
scalar_in (Value-F.Integer n) = scalar.Integer n
scalar_in (Value-F.Decimal f) = scalar.Decimal f
scalar_in (Value-F.Money cents) = scalar.Money cents
scalar_in (Value-F.Date day) = scalar.Date day
scalar_in (Value-F.Duration span) = scalar.Duration span
scalar_in _ = scalar.Compound

-- what is in a value that has no parts
abbrev pub scalar_of : Value → Scalar
scalar_of v = scalar_in (out-Value v)

-- what is there at a position in place of a result
abbrev pub stop_at : Pos → NoResult → Stop
stop_at p (result.Fault k) = stop.Fault k p
stop_at p result.Stuck = stop.Stuck

-- a result, or what is there at a position in its place
abbrev pub with_position : {A : Type 0} → Pos → Result A NoResult → Result A Stop
with_position p (Ok a) = Ok a
with_position p (Err none) = Err (stop_at p none)

-- a scalar as a value
abbrev pub scalar_reply : Scalar → Reply
scalar_reply (scalar.Boolean b) = Ok (flat.Boolean b)
scalar_reply (scalar.Integer n) = Ok (flat.Integer n)
scalar_reply (scalar.Decimal f) = Ok (flat.Decimal f)
scalar_reply (scalar.Money cents) = Ok (flat.Money cents)
scalar_reply (scalar.Date day) = Ok (flat.Date day)
scalar_reply (scalar.Duration span) = Ok (flat.Duration span)
scalar_reply scalar.Compound = Err stop.Stuck

-- a result as a value, or what is there at a position in its place
abbrev pub as_reply : Pos → Result Scalar NoResult → Reply
as_reply p (Ok s) = scalar_reply s
as_reply p (Err none) = Err (stop_at p none)

-- the truth value of a scalar that is one
abbrev pub truth_of : Scalar → Result Bool NoResult
truth_of (scalar.Boolean b) = Ok b
truth_of _ = Err result.Stuck

-- the whole number of a scalar that is one
abbrev pub integer_of : Scalar → Result ℤ NoResult
integer_of (scalar.Integer n) = Ok n
integer_of _ = Err result.Stuck

-- the fraction of a scalar that is one
abbrev pub decimal_of : Scalar → Result Fraction NoResult
decimal_of (scalar.Decimal f) = Ok f
decimal_of _ = Err result.Stuck

-- the cents of a scalar that is an amount
abbrev pub money_of : Scalar → Result ℤ NoResult
money_of (scalar.Money cents) = Ok cents
money_of _ = Err result.Stuck

-- the day of a scalar that is one
abbrev pub date_of : Scalar → Result ℤ NoResult
date_of (scalar.Date day) = Ok day
date_of _ = Err result.Stuck

-- the span of a scalar that is one
abbrev pub duration_of : Scalar → Result SpanOf NoResult
duration_of (scalar.Duration span) = Ok span
duration_of _ = Err result.Stuck

-- what an exact result that does not fit, or that has a divisor 0, is in place of
abbrev pub num_fault : NumFault → NoResult
num_fault num.Overflow = result.Fault kind.Overflow
num_fault num.DivisionByZero = result.Fault kind.DivisionByZero

-- the same of dates and durations; none of the operators is refused as no day
abbrev pub date_fault : DateFault → NoResult
date_fault date.Overflow = result.Fault kind.Overflow
date_fault date.AmbiguousDate = result.Fault kind.AmbiguousDate
date_fault date.Uncomparable = result.Fault kind.Uncomparable
date_fault date.NotADay = result.Stuck

-- an exact result as a scalar, or its fault
abbrev pub exact_as : {A : Type 0} → (A → Scalar) → Result A NumFault → Result Scalar NoResult
exact_as make (Ok a) = Ok (make a)
exact_as make (Err fault) = Err (num_fault fault)

-- a result of dates and durations as a scalar, or its fault
abbrev pub dated_as : {A : Type 0} → (A → Scalar) → Result A DateFault → Result Scalar NoResult
dated_as make (Ok a) = Ok (make a)
dated_as make (Err fault) = Err (date_fault fault)
