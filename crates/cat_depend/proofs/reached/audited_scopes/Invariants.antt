use Rattle.std.proofs.Common.{◌≡◌, ◌++◌, drop}
use Rattle.std.specs.Prelude.{filter}
use Rattle.cat_depend.specs.inside.Marks.{is_marked}
use Rattle.cat_depend.proofs.reached.audited_scopes.Given as goal

abbrev pub invariant-loop-number : goal.invariant-loop-number
invariant-loop-number l =
    l.scopes ++ filter (is_marked l.marks.items) (drop l.number-index l.program.scope_order)
    ≡ filter (is_marked l.marks.items) l.program.scope_order
