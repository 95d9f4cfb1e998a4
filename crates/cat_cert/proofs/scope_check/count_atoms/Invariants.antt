use Rattle.std.proofs.Common.{◌^◌, ◌<◌, ◌≤◌, ℕ, length, slice_index_or}
use Rattle.cat_guard.specs.declared.table.Table.{Table}
use Rattle.cat_cert.proofs.scope_check.count_atoms.Given as goal

abbrev pub invariant-loop-table : goal.invariant-loop-table
invariant-loop-table l =
    (k : ℕ) (d : Table) → k < l.table-index → length (slice_index_or l.tables k d).atoms ≤ 2 ^ 64
