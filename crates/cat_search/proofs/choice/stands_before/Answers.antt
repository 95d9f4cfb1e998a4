use Rattle.std.proofs.Common.{List, ℕ, IsTrue, sym, subst, rules}
use Rattle.cat_region.specs.declared.dim.Dim.{Dim}
use Rattle.cat_region.specs.Regions.{is_cut_at}
use Rattle.cat_search.proofs.WayLemmas.{cut_is}
use Rattle.cat_search.proofs.choice.stands_before.Goals as goal

pub decided-requires : goal.decided-requires
decided-requires c =
    let table = c.args.table.now in
    let atom = c.at.result.now in
    subst (λ (i : ℕ). IsTrue (is_cut_at c.args.region.now.dims i atom.cut)) (search rules)
    (subst (λ (ds : List Dim). IsTrue (is_cut_at ds atom.term atom.cut)) (sym c.requires.dims)
    (cut_is table.terms table.atoms table.targets (search rules) c.args.number atom c.at.ensures))
