use Rattle.std.proofs.Common.{◌≡◌}
use Rattle.cat_rows_data.proofs.calls.answers.Given as goal

abbrev pub invariant-loop : goal.invariant-loop
invariant-loop l = l.region.dims ≡ l.dims
