use Rattle.std.proofs.Common.{◌≡◌, ◌++◌, drop}
use Rattle.cat_audit_keys.specs.inside.Fronts.{patterns_in}
use Rattle.cat_audit_keys.proofs.spell.patterns_in.Given as goal

abbrev pub invariant-loop-arm : goal.invariant-loop-arm
invariant-loop-arm l = l.numbers ++ patterns_in (drop l.arm-index l.arms) ≡ patterns_in l.arms
