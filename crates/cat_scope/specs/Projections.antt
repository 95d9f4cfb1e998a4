-- A value as one of a kind; a value of another kind is stuck.
use Rattle.std.specs.Prelude.{ℕ, ℤ, Bool, List, Option, Result, Ok, Err}
use Rattle.cat_num.specs.Frac.{Fraction}
use Rattle.cat_date.specs.Span.{SpanOf}
use Rattle.cat_value.specs.declared.value.Value.{Value}
use Rattle.cat_value.specs.declared.value.Value.TheOpen.{Value-F}
use Rattle.cat_value.specs.declared.value.Value.TheViews.{out-Value}
use Rattle.cat_scope.specs.declared.stop.Stop.{Stop}
use Rattle.cat_scope.specs.declared.stop.Stop.TheVariants.{Stuck}

-- the truth value of a boolean
abbrev pub truth_in : Value-F Value → Result Bool Stop
truth_in (Value-F.Boolean b) = Ok b
truth_in _ = Err Stuck

-- the whole number of an integer
abbrev pub integer_in : Value-F Value → Result ℤ Stop
integer_in (Value-F.Integer n) = Ok n
integer_in _ = Err Stuck

-- the fraction of a decimal
abbrev pub decimal_in : Value-F Value → Result Fraction Stop
decimal_in (Value-F.Decimal f) = Ok f
decimal_in _ = Err Stuck

-- the cents of an amount
abbrev pub money_in : Value-F Value → Result ℤ Stop
money_in (Value-F.Money cents) = Ok cents
money_in _ = Err Stuck

-- the number of a day
abbrev pub date_in : Value-F Value → Result ℤ Stop
date_in (Value-F.Date day) = Ok day
date_in _ = Err Stuck

-- the months and days of a duration
abbrev pub duration_in : Value-F Value → Result SpanOf Stop
duration_in (Value-F.Duration span) = Ok span
duration_in _ = Err Stuck

-- the elements of a list
abbrev pub elements_in : Value-F Value → Result (List Value) Stop
elements_in (Value-F.List values) = Ok values
elements_in _ = Err Stuck

-- the fields of a structure
abbrev pub parts_in : Value-F Value → Result (List Value) Stop
parts_in (Value-F.Structure values) = Ok values
parts_in _ = Err Stuck

-- the number and the content of a case
abbrev pub case_in : Value-F Value → Result (ℕ × Option Value) Stop
case_in (Value-F.Case case content) = Ok (case, content)
case_in _ = Err Stuck

-- the truth value of a value that is a boolean
abbrev pub truth : Value → Result Bool Stop
truth value = truth_in (out-Value value)

-- the whole number of one that is an integer
abbrev pub integer : Value → Result ℤ Stop
integer value = integer_in (out-Value value)

-- the fraction of one that is a decimal
abbrev pub decimal : Value → Result Fraction Stop
decimal value = decimal_in (out-Value value)

-- the cents of one that is an amount
abbrev pub money : Value → Result ℤ Stop
money value = money_in (out-Value value)

-- the day's number of one that is a date
abbrev pub date : Value → Result ℤ Stop
date value = date_in (out-Value value)

-- the months and days of one that is a duration
abbrev pub duration : Value → Result SpanOf Stop
duration value = duration_in (out-Value value)

-- the elements of one that is a list
abbrev pub elements : Value → Result (List Value) Stop
elements value = elements_in (out-Value value)

-- the values of the fields of one that is a structure
abbrev pub parts : Value → Result (List Value) Stop
parts value = parts_in (out-Value value)

-- the number of one that is a case, and its content where it has one
abbrev pub case_of : Value → Result (ℕ × Option Value) Stop
case_of value = case_in (out-Value value)
