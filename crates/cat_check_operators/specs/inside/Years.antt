-- So many years as a duration.
use Rattle.std.specs.Prelude.{ℤ, Option, Some, None, if◌then◌else◌}
use Rattle.cat_tree.specs.declared.expression.Unit.TheVariants as unit
use Rattle.cat_date.specs.Span.{SpanOf, is_span}
use Rattle.cat_names.specs.Operations.{span_written}

-- the duration of so many years, where it is one
abbrev pub years_of : ℤ → Option SpanOf
years_of n = if is_span (span_written n unit.Year) then Some (span_written n unit.Year) else None
