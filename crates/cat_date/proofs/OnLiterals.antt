-- What an answer unfolds to compute this crate's words on literals.
use Rattle.std.specs.Prelude.{⊤}
use Rattle.jiff_core.specs.Calendar.{days_of_months}
use Rattle.cat_date.specs.Calendar.{days_of_years, day_number, whole_years, whole_months, date_in_year, date_after}
use Rattle.cat_date.specs.Calendar.{civil_of, day_of_civil}
use Rattle.cat_date.specs.Add.{day_of_month, date_plus_months}
use Rattle.cat_date.specs.Span.{span_in_range, compared_spans}
use Rattle.cat_date.specs.Text.{day_text, day_of_text}

unfoldable pub cat_date_on_literals : ⊤
unfolding days_of_months days_of_years day_number whole_years whole_months date_in_year date_after civil_of day_of_civil
    day_of_month date_plus_months span_in_range compared_spans day_text day_of_text
cat_date_on_literals = tt
