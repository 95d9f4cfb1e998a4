use Rattle.std.proofs.Common.{length, sym, subst, List}
use Rattle.cat_machine.specs.declared.machine.HeldRef.{HeldRef}
use Rattle.cat_machine.specs.inside.Outcomes.{AreDefinitions}
use Rattle.cat_machine.proofs.RunEnds.{target_there}
use Rattle.cat_machine.proofs.Sorting.{top_defined}
use Rattle.cat_machine.proofs.ending.outcome_of.Goals as goal

pub positions-requires : goal.positions-requires
positions-requires c =
    subst (λ (l : List HeldRef). AreDefinitions c.args.code.now.tables l) (sym c.items.ensures)
    (top_defined c.args.code.now.tables (length c.args.m.now.pool) c.args.m.now.defaults c.requires.machine.defaults)

pub at-entry-requires : goal.at-entry-requires
at-entry-requires c =
    target_there c.args.code.now.tables c.args.m.now c.args.end c.in-NoValue.v c.in-NoValue.is c.requires.some
