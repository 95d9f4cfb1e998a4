use Rattle.std.proofs.Common.{◌≡◌, ◌++◌, ℕ, List, take, drop, map, bytes_eq}
use Rattle.std.specs.List.{list_any}
use Rattle.cat_names.specs.Unknown.{twice}
use Rattle.cat_check_names.proofs.Twice.{later}
use Rattle.cat_check_names.proofs.repeated.add_repeated.Given as goal

abbrev pub invariant-loop-thing : goal.invariant-loop-thing
invariant-loop-thing g l =
    ((w : List ℕ) → list_any (bytes_eq w) l.seen.keys ≡ list_any (λ x. bytes_eq (g.T.Written.written x).text w)
    (take l.thing-index l.things))
    × (l.faults ++ later (map g.T.Written.written l.things) l.thing-index
    (map g.T.Written.written (drop l.thing-index l.things)) ≡ l.fn.faults ++ twice (map g.T.Written.written l.things))
