use Rattle.std.proofs.Common.{◌≡◌, ◌++◌, drop}
use Rattle.cat_lower.specs.declared.growing.Growing.{Growing}
use Rattle.cat_lower.specs.Grown.{Grown, ends_of}
use Rattle.cat_lower.specs.Scopes.{functions_code, function_entries}
use Rattle.cat_lower.specs.Told.{scope_standing}
use Rattle.cat_lower.proofs.items.emit_functions.Given as goal

abbrev pub invariant-loop-number : goal.invariant-loop-number
invariant-loop-number l = record {
  grown : (new : Growing) → Grown l.growing new
      (functions_code (scope_standing l.here l.scope) l.number (drop l.number l.here.items.now))
      → Grown l.fn.growing new (functions_code (scope_standing l.here l.scope) 0 l.here.items.now);
  entries : l.entries ++ function_entries (scope_standing l.here l.scope) l.number (drop l.number l.here.items.now)
      (ends_of l.growing)
      ≡ l.fn.entries ++ function_entries (scope_standing l.here l.scope) 0 l.here.items.now (ends_of l.fn.growing);
}
