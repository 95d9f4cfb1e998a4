use Rattle.std.proofs.Common.{◌≡◌, drop, map}
use Rattle.std.specs.List.{enumerate_from}
use Rattle.cat_names.specs.Accepted.{unordered}
use Rattle.cat_names.specs.Bodies.{bodies_meant, body_found}
use Rattle.cat_names.specs.Found.{each_found}
use Rattle.cat_check.proofs.Listed.{AreLeft}
use Rattle.cat_check.proofs.Whole.{front}
use Rattle.cat_check.proofs.scopes.bodies.Given as goal

-- the bodies so far, and behind them those that are left, with the items about them
abbrev pub invariant-loop-number : goal.invariant-loop-number
invariant-loop-number l = record {
  told : front (map unordered l.bodies) (each_found (body_found l.decls l.fn.tree.items)
      (enumerate_from l.number (drop l.number l.decls.scopes))) ≡ bodies_meant l.decls l.fn.tree;
  left : AreLeft l.decls l.fn.tree.items l.number l.lists.items;
}
