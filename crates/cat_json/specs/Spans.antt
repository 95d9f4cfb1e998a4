-- What JSON is read as durations.
use Rattle.std.specs.Prelude.{ℕ, ℤ, List, [], ◌∷◌, Option, Some, None, Ok, Err, codes}
use Rattle.serde_json.specs.Data.{Data, Members}
use Rattle.cat_json.specs.declared.refusal.Reason.TheVariants.{WrongForm, Missing}
use Rattle.cat_json.specs.Paths.{Reading, refused, at_step}
use Rattle.serde_json.specs.Find.{as_object, get}
use Rattle.cat_date.specs.Span.{SpanOf}
use Rattle.cat_json.specs.declared.step.Step.TheVariants.{Name}
use Rattle.cat_json.specs.WholeNumbers.{integer_of, whole_in}
use Rattle.cat_json.specs.Keys.{with_no_others}

-- a whole number that is a member
abbrev pub whole_part : Option Data → Reading ℤ
whole_part None = refused Missing
whole_part (Some d) = whole_in (integer_of d)

-- the number of days, and then that of months
abbrev pub days_and_months : Reading ℤ → Reading ℤ → Reading SpanOf
days_and_months (Ok days) (Ok months) = Ok (record { months = months; days = days })
days_and_months (Ok days) (Err refusal) = Err refusal
days_and_months (Err refusal) months = Err refusal

-- the whole number that is the member of that name
abbrev pub part_in : List ℕ → Data → Reading ℤ
part_in name d = at_step (Name name) (whole_part (get name d))

-- the members `days` and `months`, and no others, where there is an object
abbrev pub object_span : Data → Option Members → Reading SpanOf
object_span d None = refused WrongForm
object_span d (Some ms) = with_no_others (codes "days" ∷ codes "months" ∷ []) ms
    (days_and_months (part_in (codes "days") d) (part_in (codes "months") d))

-- an object with the whole numbers `days` and `months`
abbrev pub span_in : Data → Reading SpanOf
span_in d = object_span d (as_object d)
