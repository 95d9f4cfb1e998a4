use Rattle.std.proofs.Common.{◌≡◌, drop}
use Rattle.std.specs.Prelude.{nat_lt}
use Rattle.std.specs.List.{list_all}
use Rattle.cat_verify.proofs.numbers.refuse_entries.Given as goal

abbrev pub invariant-loop-entry : goal.invariant-loop-entry
invariant-loop-entry l =
    list_all (λ place. nat_lt place l.count) (drop l.entry-index l.entries)
    ≡ list_all (λ place. nat_lt place l.count) l.entries
