use Rattle.std.proofs.Common.{sym, subst}
use Rattle.cat_dead_report.specs.inside.Knowing.{AreKnown}
use Rattle.cat_dead_report.proofs.KnownLemmas.{begins, told_both}
use Rattle.cat_dead_report.proofs.found.known_of.Goals as goal

pub try_leaves-requires-clause-known : goal.try_leaves-requires-clause-known
try_leaves-requires-clause-known c =
    let here = c.args.here.now in
    subst (AreKnown here.program.now here.table.now here.target.now c.args.nodes.now c.args.numbers.now)
    (sym c.in_ok-known.ensures)
    (begins here.program.now here.table.now here.target.now c.args.nodes.now c.args.numbers.now c.args.count
    c.requires.numbers)

pub returns-clause-told : goal.returns-clause-told
returns-clause-told c =
    let here = c.args.here.now in
    told_both here.program.now here.table.now here.target.now c.args.nodes.now c.args.numbers.now
    c.try_leaves.new.known.items c.try_leaves-2.new.known.items c.in_ok-try_leaves-2.ensures.grown c.args.leaves.now
    c.in_ok-try_leaves.ensures.told c.in_ok-try_leaves-2.ensures.told
