use Rattle.std.proofs.Common.{◌≡◌, ◌++◌, drop, string_bytes}
use Rattle.cat_app.specs.inside.Beside.{left_beside, target_beside}
use Rattle.cat_app.proofs.never.push_target.Given as goal

abbrev pub invariant-loop-definition : goal.invariant-loop-definition
invariant-loop-definition l = record {
  text : string_bytes l.text ++ target_beside l.files l.target.name (drop l.definition-index l.target.defs) l.dead
      ≡ string_bytes l.fn.text ++ target_beside l.files l.target.name l.target.defs l.fn.dead;
  left : left_beside (drop l.definition-index l.target.defs) l.dead ≡ left_beside l.target.defs l.fn.dead;
}
