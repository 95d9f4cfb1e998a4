use Rattle.std.proofs.Common.{rules, ◌≡◌, sym, subst, List}
use Rattle.cat_machine.specs.declared.machine.HeldRef.{HeldRef}
use Rattle.cat_machine.specs.inside.Outcomes.{AreDefinitions, by_number}
use Rattle.cat_machine.proofs.Sorting.{defined_sorted, in_order}
use Rattle.cat_machine.proofs.ending.positions.Goals as goal

pub positions_of-requires : goal.positions_of-requires
positions_of-requires c =
    let same : c.deref.result.now ≡ by_number c.args.held.now = search rules in
    subst (λ (l : List HeldRef). AreDefinitions c.args.code.now.tables l) (sym same)
    (defined_sorted c.args.code.now.tables c.args.held.now c.requires)

pub returns : goal.returns
returns c vs =
    let same : c.deref.result.now ≡ by_number c.args.held.now = search rules in
    in_order c.args.code.now.tables vs c.positions_of.result c.args.held.now c.deref.result.now same
    c.positions_of.ensures
