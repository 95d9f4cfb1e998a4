use Rattle.std.proofs.Common.{◌≡◌, ◌++◌, take}
use Rattle.std.specs.Prelude.{flat_map}
use Rattle.cat_names.specs.NameFaults.{definition_position}
use Rattle.cat_declare.proofs.blocks.add_positions.Given as goal

abbrev pub invariant-loop-line : goal.invariant-loop-line
invariant-loop-line l = l.positions ≡ l.fn.positions ++ flat_map definition_position (take l.line-index l.lines)
