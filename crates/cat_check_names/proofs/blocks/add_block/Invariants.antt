use Rattle.std.proofs.Common.{◌≡◌, ◌++◌, take}
use Rattle.std.specs.Prelude.{flat_map}
use Rattle.cat_names.specs.NameFaults.{use_faults}
use Rattle.cat_check_names.specs.Tabled.{known_at}
use Rattle.cat_check_names.proofs.blocks.add_block.Given as goal

abbrev pub invariant-loop-line : goal.invariant-loop-line
invariant-loop-line l = l.faults ≡ l.initial.faults ++ flat_map (use_faults (known_at l.here))
    (take l.line-index l.block.uses)
