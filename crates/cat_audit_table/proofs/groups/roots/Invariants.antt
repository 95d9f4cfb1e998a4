use Rattle.std.proofs.Common.{◌≡◌, ◌++◌, drop}
use Rattle.cat_sound.specs.Roots.{root_numbers}
use Rattle.cat_audit_table.proofs.groups.roots.Given as goal

abbrev pub invariant-loop-number : goal.invariant-loop-number
invariant-loop-number l =
    l.roots ++ root_numbers l.defs l.number (drop l.number l.groups) ≡ root_numbers l.defs 0 l.groups
