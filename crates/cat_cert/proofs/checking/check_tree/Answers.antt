use Rattle.std.proofs.Common.{◌≤◌, slice_get, subst, arith, IfSome, Err}
use Rattle.cat_guard.specs.declared.table.TableTarget.{TableTarget}
use Rattle.cat_guard.specs.declared.tree.CitedNode.TheVariants as cited
use Rattle.cat_walk.specs.declared.refusal.WalkRefusal.{WalkRefusal}
use Rattle.cat_walk.specs.Coverage.{IsWalked}
use Rattle.cat_walk.specs.LeafPlaces.{NamesLeaf, lists_of}
use Rattle.cat_cert.specs.Uncovered.{line_of}
use Rattle.cat_cert.specs.inside.Checkable.{last_line}
use Rattle.cat_cert.proofs.CheckLemmas.{line_within, first_named}
use Rattle.cat_cert.proofs.checking.check_tree.Goals as goal

pub line_of-requires-clause-list : goal.line_of-requires-clause-list
line_of-requires-clause-list c =
    let tree = c.args.tree.now in
    let place = c.in-Err-NotCovered.place in
    let leaf = subst (λ (w : WalkRefusal). NamesLeaf tree.tree w) c.in-Err-NotCovered.field-0-is
    c.in-Err-NotCovered.ensures.leaf in
    (line_within last_line tree.heads (lists_of tree.tree) place.list place.node cited.Leaf c.requires.tree.within
    leaf).0

pub line_of-requires-clause-fits : goal.line_of-requires-clause-fits
line_of-requires-clause-fits c =
    let tree = c.args.tree.now in
    let place = c.in-Err-NotCovered.place in
    let leaf = subst (λ (w : WalkRefusal). NamesLeaf tree.tree w) c.in-Err-NotCovered.field-0-is
    c.in-Err-NotCovered.ensures.leaf in
    let fits : line_of tree.heads place ≤ last_line =
    (line_within last_line tree.heads (lists_of tree.tree) place.list place.node cited.Leaf c.requires.tree.within
    leaf).1 in
    omega (arith, fits)

pub returns-in-Err-NotCovered-clause-first : goal.returns-in-Err-NotCovered-clause-first
returns-in-Err-NotCovered-clause-first c =
    let table = c.args.table.now in
    let tree = c.args.tree.now in
    let region = c.args.region.now in
    let o = slice_get table.targets c.args.target in
    first_named o table.atoms region tree c.in-Err-NotCovered.place c.line_of.result c.line_of.ensures
    (subst (λ (w : WalkRefusal). IfSome o (λ (t : TableTarget). IsWalked table.atoms t region tree.tree (Err w)))
    c.in-Err-NotCovered.field-0-is c.in-Err-NotCovered.ensures.first)
