use Rattle.std.proofs.Common.{rules, ◌∙◌, FitsSigned, w64, to_z, of_z}
use Rattle.std.proofs.lemmas.Int.{to_z-of_z}
use Rattle.cat_check_operators.proofs.Durations.{years_ok, years_err}
use Rattle.cat_check_operators.proofs.literals.years.Goals as goal

pub returns-in-Ok : goal.returns-in-Ok
returns-in-Ok c = let fits : FitsSigned w64 c.get.result = search rules in
    years_ok c.args.number (to_z w64 (of_z w64 c.get.result)) c.from_parts.result c.span_times.result c.in-Ok.span
    c.span_times.ensures c.from_parts.ensures (to_z-of_z w64 c.get.result fits ∙ c.get.ensures.value) c.in-Ok.is

pub returns-in-Err : goal.returns-in-Err
returns-in-Err c = let fits : FitsSigned w64 c.get.result = search rules in
    years_err c.args.number (to_z w64 (of_z w64 c.get.result)) c.from_parts.result c.span_times.result
    c.in-Err.field-0 c.span_times.ensures c.from_parts.ensures
    (to_z-of_z w64 c.get.result fits ∙ c.get.ensures.value) c.in-Err.is
