use Rattle.std.proofs.Common.{◌∙◌, slice_get, sym, subst}
use Rattle.std.proofs.lemmas.Option.{slice_get_within}
use Rattle.cat_guard.specs.declared.table.TableTarget.{TableTarget}
use Rattle.cat_guard.specs.declared.tree.CaseTree.{CaseTree}
use Rattle.cat_cert.proofs.Lists.{some_at}
use Rattle.cat_search.specs.Cells.{IsSpentWithin}
use Rattle.cat_search.specs.Searched.{IsClosedSearch, IsSearchOf}
use Rattle.cat_dead_report.specs.inside.Searches.{tree_in, IsSearchedBy}
use Rattle.cat_dead_report.proofs.SearchLemmas.{covered_by, searched_by}
use Rattle.cat_dead_report.proofs.target.target_lines.Goals as goal

pub search_in-requires-clause-target : goal.search_in-requires-clause-target
search_in-requires-clause-target c =
    let here = c.args.here.now in
    slice_get_within here.table.now.targets here.number here.target.now c.requires.scene.target

pub lines_by-requires-clause-searched : goal.lines_by-requires-clause-searched
lines_by-requires-clause-searched c =
    let here = c.args.here.now in
    let table = here.table.now in
    let t = here.target.now in
    let s = c.in_ok-search.search in
    let o = slice_get table.targets here.number in
    let some = c.tables_admit_something.ensures table.scope table c.requires.scene.tabled in
    let searched = some_at o t (λ (u : TableTarget). IsSearchOf table.terms table.atoms u c.args.budget s)
    c.requires.scene.target (c.in_ok-search.ensures.found some) in
    let within = some_at o t (λ (u : TableTarget). IsSpentWithin table.terms table.atoms u c.args.budget s)
    c.requires.scene.target c.in_ok-search.ensures.spent in
    subst (λ (w : CaseTree). IsSearchedBy table t c.args.budget w c.tree_in-tree.result.1)
    (sym c.tree_in-tree.ensures.tree)
    (subst (IsSearchedBy table t c.args.budget (tree_in s)) (sym c.tree_in-tree.ensures.whole)
    (searched_by table t c.args.budget s searched within))

-- a search without bad leaves shows that each valuation covers the target
pub returns-clause-covered : goal.returns-clause-covered
returns-clause-covered c is =
    let here = c.args.here.now in
    let table = here.table.now in
    let t = here.target.now in
    let s = c.in_ok-search.search in
    let closed = some_at (slice_get table.targets here.number) t
    (λ (u : TableTarget). IsClosedSearch table.terms table.atoms u s) c.requires.scene.target
    c.in_ok-search.ensures.closed in
    covered_by table t s closed (sym c.tree_in-tree.ensures.covered ∙ is)
    c.closed_trees_cover_each_valuation.ensures.nodes
