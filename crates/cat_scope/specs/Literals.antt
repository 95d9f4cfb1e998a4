-- The types of literals, and which of them keep their bounds.
use Rattle.std.specs.Prelude.{Bool, true}
use Rattle.cat_num.specs.Whole.{fits}
use Rattle.cat_num.specs.Numerals.{is_numeral}
use Rattle.cat_date.specs.Calendar.{is_day}
use Rattle.cat_date.specs.Span.{is_span}
use Rattle.cat_value.specs.declared.ty.Ty.{Ty}
use Rattle.cat_value.specs.declared.ty.Ty.TheVariants as ty
use Rattle.cat_scope.specs.declared.expr.Literal.{Literal}
use Rattle.cat_scope.specs.declared.expr.Literal.TheVariants as literal

-- the type of a literal
abbrev pub literal_type : Literal → Ty
literal_type (literal.Boolean b) = ty.Boolean
literal_type (literal.Integer n) = ty.Integer
literal_type (literal.Decimal d) = ty.Decimal
literal_type (literal.Money cents) = ty.Money
literal_type (literal.Date day) = ty.Date
literal_type (literal.Duration span) = ty.Duration

-- whether a literal keeps its bound
abbrev pub literal_fits : Literal → Bool
literal_fits (literal.Boolean b) = true
literal_fits (literal.Integer n) = fits n
literal_fits (literal.Decimal d) = is_numeral d
literal_fits (literal.Money cents) = fits cents
literal_fits (literal.Date day) = is_day day
literal_fits (literal.Duration span) = is_span span
