use Rattle.std.proofs.Common.{List, IsTrue, sym, subst, rules}
use Rattle.cat_region.specs.declared.dim.Dim.{Dim}
use Rattle.cat_region.specs.Regions.{is_cut_at}
use Rattle.cat_walk.proofs.ClosedLaws.{atom_cut}
use Rattle.cat_walk.proofs.walking.is_parted.Goals as goal

pub decided-requires : goal.decided-requires
decided-requires c =
    let table = c.args.table.now in
    let atom = c.at.result.now in
    subst (λ (ds : List Dim). IsTrue (is_cut_at ds atom.term atom.cut)) (sym c.requires.dims)
    (atom_cut table.terms table.atoms table.targets (search rules) c.args.atom atom c.at.ensures)
