use Rattle.std.proofs.Common.{◌≡◌, ℕ, true, IsTrue, take}
use Rattle.cat_order.specs.Order.{dependencies_of, is_listed}
use Rattle.cat_depend.specs.inside.Searching.{is_marked, IsSearched}
use Rattle.cat_depend.proofs.cycle.next_on_cycle.Given as goal

-- those passed so far don't lead back
abbrev pub invariant-loop-next : goal.invariant-loop-next
invariant-loop-next l = record {
  searched : IsSearched l.deps l.start l.marks.items;
  passed : (n : ℕ) → IsTrue (is_listed (take l.next-index (dependencies_of l.deps l.start)) n)
      → is_marked l.marks.items n ≡ true;
}
