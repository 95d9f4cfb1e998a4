use Rattle.cat_machine.proofs.Sorting.{defined_at}
use Rattle.cat_machine.proofs.ending.positions_of.Goals as goal

pub at-requires : goal.at-requires
at-requires c =
    defined_at c.args.code.now.tables c.args.held.now c.loop-one.one-index (record { definition = 0; value = 0 })
    c.requires c.loop-one-test.true
