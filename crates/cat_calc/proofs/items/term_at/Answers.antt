use Rattle.std.proofs.Common.{rules, sym, ap, ◌∙◌}
use Rattle.cat_calc.specs.inside.Terms.{one_of, target_term}
use Rattle.cat_calc.specs.inside.Numbered.{groups_in}
use Rattle.cat_calc.specs.inside.Items.{term_at}
use Rattle.cat_calc.proofs.Tables.{found_within, found_read, not_found, if_same}
use Rattle.cat_calc.proofs.items.term_at.Goals as goal

pub offset_bounds-targets-index : goal.offset_bounds-targets-index
offset_bounds-targets-index c =
    let within = found_within c.args.targets.now c.args.table.now c.args.item c.args.inner c.in-Some.field-0.now
    c.requires.table (sym c.in-Some.ensures.value) in
    search (rules, within)

pub bounds-targets-index : goal.bounds-targets-index
bounds-targets-index c =
    found_within c.args.targets.now c.args.table.now c.args.item c.args.inner c.in-Some.field-0.now
    c.requires.table (sym c.in-Some.ensures.value)

pub target_term-requires-clause-few : goal.target_term-requires-clause-few
target_term-requires-clause-few c =
    (found_read c.args.defs.now c.args.targets.now c.args.table.now c.args.item c.args.inner
    c.in-Some.field-0.now c.index-targets-index.result c.requires.stand c.requires.table
    (sym c.in-Some.ensures.value) c.index-targets-index.is).forest.few

pub target_term-requires-clause-stands : goal.target_term-requires-clause-stands
target_term-requires-clause-stands c =
    (found_read c.args.defs.now c.args.targets.now c.args.table.now c.args.item c.args.inner
    c.in-Some.field-0.now c.index-targets-index.result c.requires.stand c.requires.table
    (sym c.in-Some.ensures.value) c.index-targets-index.is).forest.groups

pub target_term-requires-clause-low : goal.target_term-requires-clause-low
target_term-requires-clause-low c =
    (found_read c.args.defs.now c.args.targets.now c.args.table.now c.args.item c.args.inner
    c.in-Some.field-0.now c.index-targets-index.result c.requires.stand c.requires.table
    (sym c.in-Some.ensures.value) c.index-targets-index.is).forest.low

pub returns-in-Some : goal.returns-in-Some
returns-in-Some c =
    if_same c.target_term.result (target_term (groups_in c.args.defs.now c.index-targets-index.result.target))
    (term_at c.args.defs.now c.args.item c.args.inner)
    (ap target_term (found_read c.args.defs.now c.args.targets.now c.args.table.now c.args.item c.args.inner
    c.in-Some.field-0.now c.index-targets-index.result c.requires.stand c.requires.table
    (sym c.in-Some.ensures.value) c.index-targets-index.is).groups)
    c.target_term.ensures.term

pub returns-in-None : goal.returns-in-None
returns-in-None c =
    if_same c.one_of.result (one_of c.new.result) (term_at c.args.defs.now c.args.item c.args.inner)
    (ap one_of c.new.ensures
    ∙ not_found c.args.defs.now c.args.targets.now c.args.table.now c.args.item c.args.inner c.requires.stand
    c.requires.table (sym c.in-None.ensures.value))
    c.one_of.ensures
