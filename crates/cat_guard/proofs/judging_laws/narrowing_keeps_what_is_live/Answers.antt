use Rattle.std.proofs.Common.{rules}
use Rattle.cat_guard.specs.Judged.{answers_in}
use Rattle.cat_region.specs.Regions.{with_narrowing}
use Rattle.cat_guard.proofs.FurtherLaws.{answers_kept}
use Rattle.cat_guard.proofs.LiveLaws.{live_further}
use Rattle.cat_guard.proofs.RegionLaws.{cuts_of, sound_atoms}
use Rattle.cat_guard.proofs.judging_laws.narrowing_keeps_what_is_live.Goals as goal

pub returns : goal.returns
returns c t region n live is dims kind some =
    let table = c.args.table.now in
    live_further t (answers_in table.atoms region) (answers_in table.atoms (with_narrowing region n)) live
    (answers_kept table.atoms region n is
    (cuts_of region.dims table.terms table.atoms dims
    (sound_atoms table.terms table.atoms table.targets (search rules))) kind some)
