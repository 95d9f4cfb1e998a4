use Rattle.std.proofs.Common.{drop}
use Rattle.cat_depend.specs.Reached.{calls_in}
use Rattle.cat_depend.proofs.Marking.{IsUnderWay}
use Rattle.cat_depend.proofs.reached.marks_of.Given as goal

abbrev pub invariant-loop-at : goal.invariant-loop-at
invariant-loop-at l = IsUnderWay (calls_in l.program) l.scope (drop l.at l.program.scope_order) l.marks.items
