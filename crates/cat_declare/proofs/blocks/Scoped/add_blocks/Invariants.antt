use Rattle.std.proofs.Common.{◌≡◌, ◌++◌, take}
use Rattle.std.specs.Prelude.{flat_map}
use Rattle.cat_declare.specs.inside.Naming.{block_faults}
use Rattle.cat_declare.specs.inside.Tabling.{tree_at}
use Rattle.cat_declare.proofs.blocks.Scoped.add_blocks.Given as goal

abbrev pub invariant-loop-item : goal.invariant-loop-item
invariant-loop-item l = l.faults
    ≡ l.fn.faults ++ flat_map (block_faults (tree_at l.self.tables.now).items) (take l.item-index l.items)
