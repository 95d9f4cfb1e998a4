use Rattle.std.proofs.Common.{◌≡◌, ◌+◌, ◌∙◌, ℕ, Some, Ok, slice_get, length, map, refl, sym, ap, subst}
use Rattle.std.proofs.Common.{arith, add-one, rules}
use Rattle.std.proofs.lemmas.Option.{slice_get_read}
use Rattle.std.proofs.lemmas.Result.{err_from_is_err_and}
use Rattle.cat_region.specs.Regions.{Constraints}
use Rattle.cat_scope.specs.Names.{AllHave}
use Rattle.cat_guard.specs.declared.table.TableTarget.{TableTarget}
use Rattle.cat_guard.proofs.Exported.{entry}
use Rattle.cat_cert.specs.Heights.{IsUpTo}
use Rattle.cat_cert.specs.Lines.{TargetDue}
use Rattle.cat_cert.specs.Uncovered.{everything}
use Rattle.cat_cert.specs.inside.Checkable.{last_line, NamesFirst}
use Rattle.cat_cert.proofs.Lists.{some_at}
use Rattle.cat_cert.proofs.CertifiedLemmas.{all_small}
use Rattle.cat_cert.proofs.TableLemmas.{below_test}
use Rattle.cat_dead.specs.Winners.{tree_open}
use Rattle.cat_dead.specs.inside.Told.{IsAdded}
use Rattle.cat_dead.proofs.TargetsLemmas.{IsOnWay, starts, checkable, goes_on, stops, all_known, all_won}
use Rattle.cat_dead.proofs.checking.winners_in.Goals as goal

pub highest-requires : goal.highest-requires
highest-requires c =
    all_small last_line _ (map TargetDue c.args.table.now.targets) c.args.trees.now c.requires

pub loop-at-init : goal.loop-at-init
loop-at-init c =
    let region = c.in_ok-region.region in
    let is = c.in_ok-region.ensures in
    subst (IsOnWay c.args.table.now c.args.trees.now 0 region) (sym c.new-won.ensures)
    (starts c.args.table.now c.args.trees.now region c.requires
    (ap (λ (r : Constraints). r.dims) is, ap (λ (r : Constraints). r.narrowings) is)
    (subst (λ (n : ℕ). AllHave (IsUpTo n) c.args.trees.now) (sym (ap (λ (r : Constraints). r.room) is))
    c.in_ok-height.ensures))

pub add_target-requires-clause-target : goal.add_target-requires-clause-target
add_target-requires-clause-target c =
    let test = c.loop-at-test.true in
    let count = c.loop-at.invariant.count in
    let same : c.in-Ok.target ≡ c.loop-at.at = search rules in
    omega (arith, test, count, same)

pub add_target-requires-clause-whole : goal.add_target-requires-clause-whole
add_target-requires-clause-whole c = c.loop-at.invariant.whole

pub add_target-requires-clause-tree : goal.add_target-requires-clause-tree
add_target-requires-clause-tree c =
    let table = c.args.table.now in
    let trees = c.args.trees.now in
    let at = c.loop-at.at in
    let on = c.loop-at.invariant in
    let test = c.loop-at-test.true in
    let count = on.count in
    let e = entry table.targets at (below_test at (length table.targets) (omega (arith, test, count))) in
    let tree_at : slice_get trees at ≡ Some c.index-trees-at.result =
    slice_get_read trees (length trees) at c.index-trees-at.result refl (omega (arith, test)) c.index-trees-at.is in
    checkable table trees at c.loop-at.region c.loop-at.won on e.value c.index-trees-at.result e.is tree_at
    c.trees_split_as_they_are_written.ensures c.atoms_of_targets_are_there.ensures

pub returns-in_err-add_target-clause-first : goal.returns-in_err-add_target-clause-first
returns-in_err-add_target-clause-first c =
    let p = err_from_is_err_and c.from_residual-in_err-add_target.result c.from_residual-in_err-add_target.ensures.1 in
    let table = c.args.table.now in
    let trees = c.args.trees.now in
    let at = c.loop-at.at in
    let on = c.loop-at.invariant in
    let tree = c.index-trees-at.result in
    let test = c.loop-at-test.true in
    let count = on.count in
    let e = entry table.targets at (below_test at (length table.targets) (omega (arith, test, count))) in
    let tree_at : slice_get trees at ≡ Some tree =
    slice_get_read trees (length trees) at tree refl (omega (arith, test)) c.index-trees-at.is in
    let same : c.in-Ok.target ≡ at = search rules in
    let why = c.in_err-add_target.field-0.0 in
    let first = some_at (slice_get table.targets c.in-Ok.target) e.value
    (λ (t : TableTarget). NamesFirst (tree_open table.atoms (everything table.terms) t tree) why)
    (ap (slice_get table.targets) same ∙ e.is) c.in_err-add_target.ensures.added in
    rw (p.1, p.2) (stops table trees at c.loop-at.region c.loop-at.won on e.value tree e.is tree_at why first)

pub loop-at-preserved : goal.loop-at-preserved
loop-at-preserved c =
    let table = c.args.table.now in
    let trees = c.args.trees.now in
    let at = c.loop-at.at in
    let on = c.loop-at.invariant in
    let region = c.loop-at.region in
    let won = c.loop-at.won in
    let next = c.add_target.new.won in
    let tree = c.index-trees-at.result in
    let test = c.loop-at-test.true in
    let count = on.count in
    let e = entry table.targets at (below_test at (length table.targets) (omega (arith, test, count))) in
    let tree_at : slice_get trees at ≡ Some tree =
    slice_get_read trees (length trees) at tree refl (omega (arith, test)) c.index-trees-at.is in
    let same : c.in-Ok.target ≡ at = search rules in
    let added = some_at (slice_get table.targets c.in-Ok.target) e.value
    (λ (t : TableTarget). IsAdded table t tree won next (Ok tt)) (ap (slice_get table.targets) same ∙ e.is)
    c.in_ok-add_target.ensures.added in
    subst (λ (r : Constraints). IsOnWay table trees (at + 1) r next) (sym c.in_ok-add_target.ensures.region)
    (subst (λ (n : ℕ). IsOnWay table trees n region next) (sym (add-one at))
    (goes_on table trees at region won on e.value tree e.is tree_at next added))

pub returns-clause-known : goal.returns-clause-known
returns-clause-known c =
    let test = c.loop-at-test.false in
    all_known c.args.table.now c.args.trees.now c.loop-at.at c.loop-at.region c.loop-at.won c.loop-at.invariant
    (omega (arith, test))

pub returns-clause-won : goal.returns-clause-won
returns-clause-won c =
    let test = c.loop-at-test.false in
    all_won c.args.table.now c.args.trees.now c.loop-at.at c.loop-at.region c.loop-at.won c.loop-at.invariant
    (omega (arith, test))
