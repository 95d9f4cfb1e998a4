use Rattle.std.proofs.Common.{◌≡◌, ◌∙◌, [], slice_get, length, map, take, sym, subst, IsTrue, rules}
use Rattle.cat_value.proofs.Exported.{found}
use Rattle.cat_search.specs.Cells.{IsSpentWithin}
use Rattle.cat_search.specs.Searched.{IsClosedSearch, IsSearchOf}
use Rattle.cat_search.specs.Ways.{ask_below, way_from}
use Rattle.cat_audit.specs.Lines.{findings, counting}
use Rattle.cat_audit.specs.inside.Tried.{region_at}
use Rattle.cat_audit.proofs.TargetLineLemmas.{asked_of, bad_first, bad_as, counts_as, line_made, cause_made}
use Rattle.cat_sound.proofs.Exported.{all_at}
use Rattle.cat_audit.proofs.TargetThere.{at_some, if_some}
use Rattle.cat_audit.proofs.line.target_line.Goals as goal

pub tried-requires-clause-asked : goal.tried-requires-clause-asked
tried-requires-clause-asked c n =
    let table = c.args.table.now in
    let s = c.in_ok-search.search in
    let one = found table.targets c.args.target c.requires.target in
    let some = c.tables_admit_something.ensures table.scope table c.requires.tabled in
    let searched = at_some (λ t. IsSearchOf table.terms table.atoms t c.args.budget s)
    (slice_get table.targets c.args.target) one.0 one.1 (c.in_ok-search.ensures.found some) in
    let law = all_at _ table.targets c.args.target one.0 c.searched_trees_ask_atoms_of_the_table.ensures one.1 in
    subst (λ ns. IsTrue (ask_below (length table.atoms) (way_from [] (take n ns)))) (sym c.nodes_of-nodes.ensures)
    (asked_of table one.0 c.args.budget s searched law n)

pub tried-requires-clause-bad : goal.tried-requires-clause-bad
tried-requires-clause-bad c =
    let table = c.args.table.now in
    let s = c.in_ok-search.search in
    let some = c.tables_admit_something.ensures table.scope table c.requires.tabled in
    if_some (slice_get table.targets c.args.target) (λ t is.
    let searched = at_some (λ t. IsSearchOf table.terms table.atoms t c.args.budget s)
    (slice_get table.targets c.args.target) t is (c.in_ok-search.ensures.found some) in
    bad_as table t s c.nodes_of-nodes.result.now c.bad_of-bad.result.now c.nodes_of-nodes.ensures c.bad_of-bad.ensures
    (bad_first c.args.program.now table t c.args.budget (search rules) c.leaves_are_where_their_ways_lead.ensures s
    searched))

pub returns-clause-line : goal.returns-clause-line
returns-clause-line c =
    let program = c.args.program.now in
    let table = c.args.table.now in
    let s = c.in_ok-search.search in
    let best = c.in_ok-found.found in
    let o = slice_get table.targets c.args.target in
    let some = c.tables_admit_something.ensures table.scope table c.requires.tabled in
    if_some o (λ t is.
    let counts = counts_as program table t s c.nodes_of-nodes.result.now c.bad_of-bad.result.now
    c.nodes_of-nodes.ensures c.bad_of-bad.ensures best (at_some (λ t. best ≡ counting (findings program table t
    (map (region_at table c.nodes_of-nodes.result.now) c.bad_of-bad.result.now))) o t is c.in_ok-found.ensures.counts)
    in
    line_made program table t c.args.budget (search rules) c.leaves_are_where_their_ways_lead.ensures s
    (at_some (λ t. IsSearchOf table.terms table.atoms t c.args.budget s) o t is (c.in_ok-search.ensures.found some))
    (at_some (λ t. IsClosedSearch table.terms table.atoms t s) o t is c.in_ok-search.ensures.closed)
    (at_some (λ t. IsSpentWithin table.terms table.atoms t c.args.budget s) o t is c.in_ok-search.ensures.spent)
    best counts c.line_by.result c.line_by.ensures.tree c.line_by.ensures.line)

pub returns-clause-cause : goal.returns-clause-cause
returns-clause-cause c =
    let program = c.args.program.now in
    let table = c.args.table.now in
    let s = c.in_ok-search.search in
    let best = c.in_ok-found.found in
    let o = slice_get table.targets c.args.target in
    let some = c.tables_admit_something.ensures table.scope table c.requires.tabled in
    if_some o (λ t is.
    let counts = counts_as program table t s c.nodes_of-nodes.result.now c.bad_of-bad.result.now
    c.nodes_of-nodes.ensures c.bad_of-bad.ensures best (at_some (λ t. best ≡ counting (findings program table t
    (map (region_at table c.nodes_of-nodes.result.now) c.bad_of-bad.result.now))) o t is c.in_ok-found.ensures.counts)
    in
    cause_made program table t c.args.budget (search rules)
    (λ v valid. c.inputs_of_valuations_are_well_typed.ensures table.scope table v c.requires.tabled valid)
    c.points_are_admitted.ensures c.leaves_are_where_their_ways_lead.ensures s
    (at_some (λ t. IsSearchOf table.terms table.atoms t c.args.budget s) o t is (c.in_ok-search.ensures.found some))
    (at_some (λ t. IsClosedSearch table.terms table.atoms t s) o t is c.in_ok-search.ensures.closed)
    (at_some (λ t. IsSpentWithin table.terms table.atoms t c.args.budget s) o t is c.in_ok-search.ensures.spent)
    best counts (λ e. sym c.bad_of-bad.ensures ∙ c.in_ok-found.ensures.none e) c.line_by.result c.line_by.ensures.tree
    c.line_by.ensures.line)
