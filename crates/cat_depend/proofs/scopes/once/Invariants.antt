use Rattle.std.proofs.Common.{◌≡◌, ◌++◌, ℕ, List, [], drop}
use Rattle.std.specs.Ordering.{nat_cmp}
use Rattle.std.specs.BTreeSet.{contains}
use Rattle.cat_scope.specs.Names.{is_in}
use Rattle.cat_scope.specs.Orders.{once}
use Rattle.cat_depend.proofs.scopes.once.Given as goal

-- the set has the numbers in front of those that are left
abbrev pub invariant-loop-number : goal.invariant-loop-number
invariant-loop-number l = (front : List ℕ) × ((n : ℕ) → contains nat_cmp l.seen n ≡ is_in n front)
    × (l.kept ++ once front (drop l.number-index l.numbers) ≡ once [] l.numbers)
