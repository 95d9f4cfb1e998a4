use Rattle.std.proofs.Common.{rules}
use Rattle.cat_region.specs.Regions.{is_cut_at, narrowed_to}
use Rattle.cat_value.proofs.Exported.{list_all_at}
use Rattle.cat_guard.proofs.LevelLemmas.{further}
use Rattle.cat_guard.proofs.RegionLaws.{cuts_of, sound_atoms}
use Rattle.cat_guard.proofs.regions.answer_atom.Goals as goal

pub narrow-requires-clause-cut : goal.narrow-requires-clause-cut
narrow-requires-clause-cut c =
    let table = c.args.table.now in
    let dims = c.args.region.now.dims in
    list_all_at (λ a. is_cut_at dims a.term a.cut) table.atoms c.args.atom c.at.result.now
    (cuts_of dims table.terms table.atoms c.requires.dims
    (sound_atoms table.terms table.atoms table.targets (search rules))) c.at.ensures

pub returns-clause-live : goal.returns-clause-live
returns-clause-live c t levels are =
    let atom = c.at.result.now in
    record {
      conjuncts = are.conjuncts;
      whole = are.whole;
      levels = further c.args.table.now.atoms t c.args.region.now c.narrow.new.self
          (narrowed_to atom.term atom.cut c.args.yes) levels.levels c.narrow.ensures.dims c.narrow.ensures.narrowings
          c.narrow.ensures.room are.levels;
    }
