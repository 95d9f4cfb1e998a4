use Rattle.std.proofs.Common.{◌≡◌, ◌++◌}
use Rattle.std.specs.Vec.Iter.{into_iter_items}
use Rattle.cat_scope.specs.Names.{AllHave}
use Rattle.cat_except.specs.inside.Linked.{IsLinked, forest_at}
use Rattle.cat_except.proofs.linked.forest_targets.Given as goal

abbrev pub invariant-loop-target : goal.invariant-loop-target
invariant-loop-target l =
    record {
      made : l.forest ++ forest_at l.defs (into_iter_items l.target-iterator)
          ≡ forest_at l.defs (into_iter_items l.initial.target-iterator);
      left : AllHave (IsLinked l.defs) (into_iter_items l.target-iterator);
      yielded : l.yielded ++ into_iter_items l.target-iterator ≡ into_iter_items l.initial.target-iterator;
    }
