-- What each operator gives: its exact result, or its fault at a position.
use Rattle.std.specs.Prelude.{ℤ, pos, ◌-ℤ◌, neg_ℤ, not, Result, Ok}
use Rattle.cat_pos.specs.declared.pos.Pos.{Pos}
use Rattle.cat_num.specs.Whole.{whole_sum, whole_difference, whole_product}
use Rattle.cat_num.specs.Frac.{Fraction, lowest, frac_of, frac_sum, frac_difference, frac_product, frac_quotient}
use Rattle.cat_num.specs.Frac.{frac_negation}
use Rattle.cat_num.specs.Rounding.{rounded, truncated, rounded_ratio, money_product, money_quotient, whole_units}
use Rattle.cat_date.specs.declared.rounding.Rounding.{Rounding}
use Rattle.cat_date.specs.Calendar.{civil_of}
use Rattle.cat_date.specs.Add.{day_plus_span}
use Rattle.cat_date.specs.Span.{span_of_days, span_sum, span_difference, span_multiple, span_negated}
use Rattle.cat_value.specs.declared.value.Value.{Value}
use Rattle.cat_value.specs.declared.value.Value.TheVariants.{Boolean, Integer, Decimal, Money, Date, Duration}
use Rattle.cat_scope.specs.declared.stop.Stop.{Stop}
use Rattle.cat_scope.specs.declared.operators.UnaryOp.{UnaryOp}
use Rattle.cat_scope.specs.declared.operators.UnaryOp.TheVariants as unary
use Rattle.cat_scope.specs.declared.operators.BinaryOp.{BinaryOp}
use Rattle.cat_scope.specs.declared.operators.BinaryOp.TheVariants as binary
use Rattle.cat_scope.specs.Replies.{Reply, on_one, exact, dated}
use Rattle.cat_scope.specs.Projections.{truth, integer, decimal, money, date, duration}
use Rattle.cat_scope.specs.Comparing.{compared, is_less, is_greater, differ, equal}

-- a whole number as a fraction
abbrev pub over_one : ℤ → Fraction
over_one n = record { num = n; den = 1 }

-- two readings, the left one first
abbrev pub on_two : {A B C : Type 0} → Result A Stop → Result B Stop → (A → B → Result C Stop) → Result C Stop
on_two left right next = on_one left (λ a. on_one right (λ b. next a b))

-- what stands before one operand
abbrev pub convert : UnaryOp → Pos → Value → Reply
convert unary.NegateInteger p v = on_one (integer v) (λ n. Ok (Integer (neg_ℤ n)))
convert unary.NegateDecimal p v = on_one (decimal v) (λ f. Ok (Decimal (frac_negation f)))
convert unary.NegateMoney p v = on_one (money v) (λ cents. Ok (Money (neg_ℤ cents)))
convert unary.NegateDuration p v = on_one (duration v) (λ span. Ok (Duration (span_negated span)))
convert unary.Not p v = on_one (truth v) (λ b. Ok (Boolean (not b)))
convert unary.IntegerOfDecimal p v = on_one (decimal v) (λ f. Ok (Integer (truncated f.num f.den)))
convert unary.DecimalOfInteger p v = on_one (integer v) (λ n. Ok (Decimal (over_one n)))
convert unary.DecimalOfMoney p v = on_one (money v) (λ cents. Ok (Decimal (lowest cents 100)))
convert unary.MoneyOfDecimal p v = on_one (decimal v) (λ f. exact p Money (money_product (pos 100) f))
convert unary.MoneyOfInteger p v = on_one (integer v) (λ n. exact p Money (whole_product n (pos 100)))
convert unary.RoundDecimal p v = on_one (decimal v) (λ f. Ok (Decimal (over_one (rounded f.num f.den))))
convert unary.RoundMoney p v = on_one (money v) (λ cents. Ok (Money (whole_units cents)))
convert unary.YearOfDate p v = on_one (date v) (λ day. Ok (Integer (civil_of day).year))
convert unary.MonthOfDate p v = on_one (date v) (λ day. Ok (Integer (pos (civil_of day).month)))
convert unary.DayOfDate p v = on_one (date v) (λ day. Ok (Integer (pos (civil_of day).day)))

-- what stands between two operands; `r` is what becomes of a day that its month lacks
abbrev pub operate : Rounding → BinaryOp → Pos → Value → Value → Reply
operate r binary.AddIntegers p v w = on_two (integer v) (integer w) (λ a b. exact p Integer (whole_sum a b))
operate r binary.SubtractIntegers p v w = on_two (integer v) (integer w) (λ a b. exact p Integer (whole_difference a b))
operate r binary.MultiplyIntegers p v w = on_two (integer v) (integer w) (λ a b. exact p Integer (whole_product a b))
operate r binary.DivideIntegers p v w = on_two (integer v) (integer w) (λ a b. exact p Decimal (frac_of a b))
operate r binary.AddDecimals p v w = on_two (decimal v) (decimal w) (λ f g. exact p Decimal (frac_sum f g))
operate r binary.SubtractDecimals p v w = on_two (decimal v) (decimal w) (λ f g. exact p Decimal (frac_difference f g))
operate r binary.MultiplyDecimals p v w = on_two (decimal v) (decimal w) (λ f g. exact p Decimal (frac_product f g))
operate r binary.DivideDecimals p v w = on_two (decimal v) (decimal w) (λ f g. exact p Decimal (frac_quotient f g))
operate r binary.AddMoney p v w = on_two (money v) (money w) (λ a b. exact p Money (whole_sum a b))
operate r binary.SubtractMoney p v w = on_two (money v) (money w) (λ a b. exact p Money (whole_difference a b))
operate r binary.MultiplyMoneyByDecimal p v w = on_two (money v) (decimal w) (λ a f. exact p Money (money_product a f))
operate r binary.MultiplyDecimalByMoney p v w = on_two (decimal v) (money w) (λ f a. exact p Money (money_product a f))
operate r binary.MultiplyMoneyByInteger p v w = on_two (money v) (integer w) (λ a n. exact p Money (whole_product a n))
operate r binary.MultiplyIntegerByMoney p v w = on_two (integer v) (money w) (λ n a. exact p Money (whole_product n a))
operate r binary.DivideMoneyByDecimal p v w = on_two (money v) (decimal w) (λ a f. exact p Money (money_quotient a f))
operate r binary.DivideMoneyByInteger p v w = on_two (money v) (integer w) (λ a n. exact p Money (rounded_ratio a n))
operate r binary.DivideMoney p v w = on_two (money v) (money w) (λ a b. exact p Decimal (frac_of a b))
operate r binary.AddDurationToDate p v w =
    on_two (date v) (duration w) (λ day span. dated p Date (day_plus_span day span r))
operate r binary.SubtractDurationFromDate p v w =
    on_two (date v) (duration w) (λ day span. dated p Date (day_plus_span day (span_negated span) r))
operate r binary.SubtractDates p v w = on_two (date v) (date w) (λ a b. Ok (Duration (span_of_days (a -ℤ b))))
operate r binary.AddDurations p v w = on_two (duration v) (duration w) (λ a b. dated p Duration (span_sum a b))
operate r binary.SubtractDurations p v w =
    on_two (duration v) (duration w) (λ a b. dated p Duration (span_difference a b))
operate r binary.MultiplyDurationByInteger p v w =
    on_two (duration v) (integer w) (λ a n. dated p Duration (span_multiple a n))
operate r binary.Xor p v w = on_two (truth v) (truth w) (λ a b. Ok (Boolean (differ a b)))
operate r binary.Less p v w = on_one (compared p v w) (λ o. Ok (Boolean (is_less o)))
operate r binary.AtMost p v w = on_one (compared p v w) (λ o. Ok (Boolean (not (is_greater o))))
operate r binary.Greater p v w = on_one (compared p v w) (λ o. Ok (Boolean (is_greater o)))
operate r binary.AtLeast p v w = on_one (compared p v w) (λ o. Ok (Boolean (not (is_less o))))
operate r binary.Equal p v w = on_one (equal p v w) (λ b. Ok (Boolean b))
operate r binary.Unequal p v w = on_one (equal p v w) (λ b. Ok (Boolean (not b)))
