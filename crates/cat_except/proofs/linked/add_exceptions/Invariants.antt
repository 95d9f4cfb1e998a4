use Rattle.std.proofs.Common.{◌≡◌, ℕ, List, [], length, take}
use Rattle.cat_except.specs.inside.Linking.{pairs_at}
use Rattle.cat_except.specs.inside.Linked.{with_pairs}
use Rattle.cat_except.proofs.linked.add_exceptions.Given as goal

abbrev pub invariant-loop-group : goal.invariant-loop-group
invariant-loop-group l =
    (length l.groups ≡ length l.initial.groups)
    × ((lists : List (List ℕ)) → l.initial.groups ≡ with_pairs [] 0 lists
    → l.groups ≡ with_pairs (pairs_at 0 (take l.group l.excepted)) 0 lists)
