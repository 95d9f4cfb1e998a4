-- What a value is as one of a kind, by the scalar in it.
use Rattle.std.proofs.Common.{◌≡◌, ◌∙◌, ℤ, Bool, Result, Ok, Err, refl, ap}
use Rattle.std.specs.declared.cmp.Ordering.{Ordering}
use Rattle.std.specs.Ordering.{int_cmp}
use Rattle.cat_pos.specs.declared.pos.Pos.{Pos}
use Rattle.cat_num.specs.Frac.{Fraction, frac_order}
use Rattle.cat_date.specs.Span.{SpanOf, compared_spans}
use Rattle.cat_value.specs.declared.value.Value.{Value}
use Rattle.cat_value.specs.declared.value.Value.TheOpen.{Value-F}
use Rattle.cat_value.specs.declared.value.Value.TheViews.{out-Value}
use Rattle.cat_scope.specs.declared.stop.Stop.{Stop}
use Rattle.cat_scope.specs.declared.stop.Stop.TheVariants.{Stuck}
use Rattle.cat_scope.specs.Replies.{on_one, dated}
use Rattle.cat_scope.specs.Projections.{truth_in, integer_in, decimal_in, money_in, date_in, duration_in}
use Rattle.cat_scope.specs.Projections.{truth, integer, decimal, money, date, duration}
use Rattle.cat_scalar.specs.declared.scalar.Scalar.{Scalar}
use Rattle.cat_scalar.specs.declared.scalar.Scalar.TheVariants as scalar
use Rattle.cat_scalar.specs.declared.scalar.NoResult.{NoResult}
use Rattle.cat_scalar.specs.Scalars.{scalar_in, scalar_of, truth_of, integer_of, decimal_of, money_of, date_of}
use Rattle.cat_scalar.specs.Scalars.{duration_of}

-- what is there, or else stuck
abbrev pub or_stuck : {A : Type 0} → Result A NoResult → Result A Stop
or_stuck (Ok a) = Ok a
or_stuck (Err none) = Err Stuck

truth_at : (y : Value-F Value) → truth_in y ≡ or_stuck (truth_of (scalar_in y))
truth_at (Value-F.Boolean b) = refl
truth_at _ = refl

integer_at : (y : Value-F Value) → integer_in y ≡ or_stuck (integer_of (scalar_in y))
integer_at (Value-F.Integer n) = refl
integer_at _ = refl

decimal_at : (y : Value-F Value) → decimal_in y ≡ or_stuck (decimal_of (scalar_in y))
decimal_at (Value-F.Decimal f) = refl
decimal_at _ = refl

money_at : (y : Value-F Value) → money_in y ≡ or_stuck (money_of (scalar_in y))
money_at (Value-F.Money cents) = refl
money_at _ = refl

date_at : (y : Value-F Value) → date_in y ≡ or_stuck (date_of (scalar_in y))
date_at (Value-F.Date day) = refl
date_at _ = refl

duration_at : (y : Value-F Value) → duration_in y ≡ or_stuck (duration_of (scalar_in y))
duration_at (Value-F.Duration span) = refl
duration_at _ = refl

pub truth_by : (v : Value) (s : Scalar) → scalar_of v ≡ s → truth v ≡ or_stuck (truth_of s)
truth_by v s is = truth_at (out-Value v) ∙ ap (λ t. or_stuck (truth_of t)) is

pub integer_by : (v : Value) (s : Scalar) → scalar_of v ≡ s → integer v ≡ or_stuck (integer_of s)
integer_by v s is = integer_at (out-Value v) ∙ ap (λ t. or_stuck (integer_of t)) is

pub decimal_by : (v : Value) (s : Scalar) → scalar_of v ≡ s → decimal v ≡ or_stuck (decimal_of s)
decimal_by v s is = decimal_at (out-Value v) ∙ ap (λ t. or_stuck (decimal_of t)) is

pub money_by : (v : Value) (s : Scalar) → scalar_of v ≡ s → money v ≡ or_stuck (money_of s)
money_by v s is = money_at (out-Value v) ∙ ap (λ t. or_stuck (money_of t)) is

pub date_by : (v : Value) (s : Scalar) → scalar_of v ≡ s → date v ≡ or_stuck (date_of s)
date_by v s is = date_at (out-Value v) ∙ ap (λ t. or_stuck (date_of t)) is

pub duration_by : (v : Value) (s : Scalar) → scalar_of v ≡ s → duration v ≡ or_stuck (duration_of s)
duration_by v s is = duration_at (out-Value v) ∙ ap (λ t. or_stuck (duration_of t)) is

pub ruleset projections = (truth_by, integer_by, decimal_by, money_by, date_by, duration_by)
