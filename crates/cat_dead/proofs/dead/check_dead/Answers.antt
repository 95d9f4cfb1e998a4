use Rattle.std.proofs.Common.{◌∙◌, refl, rules, sym, ap, subst, map}
use Rattle.std.specs.Prelude.{filter}
use Rattle.std.proofs.lemmas.Result.{err_from_is_err_and}
use Rattle.cat_region.specs.Regions.{IsRegion}
use Rattle.cat_guard.proofs.Exported.{sound_dims}
use Rattle.cat_cert.specs.declared.certificate.Version.TheVariants as version
use Rattle.cat_cert.specs.Lines.{TargetDue}
use Rattle.cat_cert.specs.ReadTrees.{AreReadTrees}
use Rattle.cat_cert.specs.Uncovered.{everything}
use Rattle.cat_cert.specs.inside.Checkable.{NamesFirst, last_line}
use Rattle.cat_dead.specs.NeverDecides.{NeverDecide}
use Rattle.cat_dead.specs.Winners.{AreKnown, definitions_of, open_lines, winners_of, wins_nowhere}
use Rattle.cat_dead.proofs.DeadLemmas.{never_decide, open_cause, refused_cause}
use Rattle.cat_dead.proofs.dead.check_dead.Goals as goal

pub winners_in-requires : goal.winners_in-requires
winners_in-requires c =
    subst (AreReadTrees last_line version.One (map TargetDue c.args.table.now.targets)) (sym c.as_slice.ensures)
    c.in_ok-certificate.ensures.trees

pub returns-clause-dead : goal.returns-clause-dead
returns-clause-dead c =
    let program = c.args.program.now in
    let table = c.args.table.now in
    let trees = c.in_ok-certificate.certificate.trees in
    let whole : IsRegion (everything table.terms) = record {
      dims = sound_dims table.terms table.atoms table.targets (search rules);
      narrowings = refl;
    } in
    let known = subst (AreKnown table.atoms (everything table.terms) table.targets) c.as_slice.ensures
    c.in_ok-winners.ensures.known in
    let won = c.as_slice-3.ensures ∙ c.in_ok-winners.ensures.won ∙ ap (winners_of table) c.as_slice.ensures in
    subst (NeverDecide program table) (sym (c.in_ok-dead.ensures
    ∙ ap (λ ws. filter (wins_nowhere ws) (definitions_of c.as_slice-2.result.now)) won
    ∙ ap (λ ts. filter (wins_nowhere (winners_of table trees)) (definitions_of ts)) c.as_slice-2.ensures))
    (never_decide program table trees c.in_ok-certificate.ensures.trees whole
    c.what_wins_nowhere_is_never_held.ensures c.what_is_never_held_never_decides.ensures known)

pub returns-clause-checked : goal.returns-clause-checked
returns-clause-checked c =
    let table = c.args.table.now in
    let trees = c.in_ok-certificate.certificate.trees in
    let won = c.as_slice-3.ensures ∙ c.in_ok-winners.ensures.won ∙ ap (winners_of table) c.as_slice.ensures in (
      c.in_ok-certificate.certificate,
      c.in_ok-certificate.ensures.read,
      subst (AreKnown table.atoms (everything table.terms) table.targets) c.as_slice.ensures
          c.in_ok-winners.ensures.known,
      c.in_ok-dead.ensures
          ∙ ap (λ ws. filter (wins_nowhere ws) (definitions_of c.as_slice-2.result.now)) won
          ∙ ap (λ ts. filter (wins_nowhere (winners_of table trees)) (definitions_of ts)) c.as_slice-2.ensures,
    )

pub returns-in_err-certificate-clause-cause : goal.returns-in_err-certificate-clause-cause
returns-in_err-certificate-clause-cause c =
    let p = err_from_is_err_and c.from_residual.result c.from_residual.ensures.1 in
    rw (p.1, p.2) (refused_cause c.args.table.now c.args.bytes.now c.in_err-certificate.field-0.0
    c.in_err-certificate.ensures.cause)

pub returns-in_err-winners-clause-cause : goal.returns-in_err-winners-clause-cause
returns-in_err-winners-clause-cause c =
    let p = err_from_is_err_and c.from_residual-in_err-winners.result c.from_residual-in_err-winners.ensures.1 in
    let table = c.args.table.now in
    rw (p.1, p.2) (open_cause table c.args.bytes.now c.in_ok-certificate.certificate
    c.in_ok-certificate.ensures.read c.in_err-winners.field-0.0
    (subst (λ cs. NamesFirst (open_lines table cs) c.in_err-winners.field-0.0) c.as_slice.ensures
    c.in_err-winners.ensures.first))
