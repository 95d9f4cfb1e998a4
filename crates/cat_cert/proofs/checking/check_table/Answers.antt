use Rattle.std.proofs.Common.{◌≡◌, ◌+◌, ℕ, Some, slice_get, length, map, refl, sym, ap, ◌∙◌, subst}
use Rattle.std.proofs.Common.{arith, add-one, rules}
use Rattle.std.proofs.lemmas.Option.{slice_get_read}
use Rattle.std.proofs.lemmas.Result.{err_from_is_err_and}
use Rattle.cat_region.specs.Regions.{Constraints}
use Rattle.cat_guard.specs.declared.table.TableTarget.{TableTarget}
use Rattle.cat_guard.specs.Trees.{IsCitedClosed, expanded}
use Rattle.cat_guard.proofs.Exported.{entry}
use Rattle.cat_cert.specs.Lines.{TargetDue}
use Rattle.cat_cert.specs.Uncovered.{IsCovered, tree_uncovered}
use Rattle.cat_cert.specs.inside.Checkable.{last_line, NamesFirst}
use Rattle.cat_cert.proofs.Lists.{some_at}
use Rattle.cat_cert.proofs.CertifiedLemmas.{all_small}
use Rattle.cat_cert.proofs.TableLemmas.{IsUnderWay, below_test, starts, checkable, goes_on, stops}
use Rattle.cat_cert.proofs.checking.check_table.Goals as goal

pub highest-requires : goal.highest-requires
highest-requires c =
    all_small last_line c.requires.0 (map TargetDue c.args.table.now.targets) c.args.trees.now c.requires.1

pub loop-at-init : goal.loop-at-init
loop-at-init c =
    starts c.args.table.now c.args.trees.now c.in_ok-height.height c.in_ok-region.region c.requires
    c.in_ok-height.ensures
    c.in_ok-region.ensures

pub check_tree-requires-clause-tree : goal.check_tree-requires-clause-tree
check_tree-requires-clause-tree c =
    let table = c.args.table.now in
    let trees = c.args.trees.now in
    let at = c.loop-at.at in
    let on = c.loop-at.invariant in
    let test = c.loop-at-test.true in
    let count = on.count in
    let e = entry table.targets at (below_test at (length table.targets) (omega (arith, test, count))) in
    let tree_at : slice_get trees at ≡ Some c.index-trees-at.result =
    slice_get_read trees (length trees) at c.index-trees-at.result refl (omega (arith, test)) c.index-trees-at.is in
    checkable table trees at c.loop-at.region on e.value c.index-trees-at.result e.is tree_at
    c.trees_split_as_they_are_written.ensures c.atoms_of_targets_are_there.ensures

pub returns-in_err-check_tree-clause-first : goal.returns-in_err-check_tree-clause-first
returns-in_err-check_tree-clause-first c =
    let p = err_from_is_err_and c.from_residual-in_err-check_tree.result c.from_residual-in_err-check_tree.ensures.1 in
    let table = c.args.table.now in
    let trees = c.args.trees.now in
    let at = c.loop-at.at in
    let on = c.loop-at.invariant in
    let test = c.loop-at-test.true in
    let count = on.count in
    let e = entry table.targets at (below_test at (length table.targets) (omega (arith, test, count))) in
    let tree_at : slice_get trees at ≡ Some c.index-trees-at.result =
    slice_get_read trees (length trees) at c.index-trees-at.result refl (omega (arith, test)) c.index-trees-at.is in
    let same : c.in-Ok.target ≡ at = search rules in
    let why = c.in_err-check_tree.field-0.0 in
    let first = some_at (slice_get table.targets c.in-Ok.target) e.value
    (λ (t : TableTarget). NamesFirst (tree_uncovered table.atoms c.loop-at.region t c.index-trees-at.result) why)
    (ap (slice_get table.targets) same ∙ e.is) c.in_err-check_tree.ensures.first in
    rw (p.1, p.2) (stops table trees at c.loop-at.region on e.value c.index-trees-at.result e.is tree_at why first)

pub loop-at-preserved : goal.loop-at-preserved
loop-at-preserved c =
    let table = c.args.table.now in
    let trees = c.args.trees.now in
    let at = c.loop-at.at in
    let on = c.loop-at.invariant in
    let region = c.loop-at.region in
    let tree = c.index-trees-at.result in
    let test = c.loop-at-test.true in
    let count = on.count in
    let e = entry table.targets at (below_test at (length table.targets) (omega (arith, test, count))) in
    let tree_at : slice_get trees at ≡ Some tree =
    slice_get_read trees (length trees) at tree refl (omega (arith, test)) c.index-trees-at.is in
    let same : c.in-Ok.target ≡ at = search rules in
    let there = ap (slice_get table.targets) same ∙ e.is in
    let covered = some_at (slice_get table.targets c.in-Ok.target) e.value
    (λ (t : TableTarget). IsCovered table.atoms region t (expanded tree.tree)) there
    c.in_ok-check_tree.ensures.covered in
    let closed = some_at (slice_get table.targets c.in-Ok.target) e.value
    (λ (t : TableTarget). IsCitedClosed table.atoms t region tree.tree) there c.in_ok-check_tree.ensures.closed in
    subst (λ (r : Constraints). IsUnderWay table trees (at + 1) r) (sym c.in_ok-check_tree.ensures.region)
    (subst (λ (n : ℕ). IsUnderWay table trees n region) (sym (add-one at))
    (goes_on table trees at region on e.value tree e.is tree_at c.room_closes_no_tree.ensures covered closed))
