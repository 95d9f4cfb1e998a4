use Rattle.std.proofs.Common.{ap, ◌∙◌}
use Rattle.cat_guard.specs.Judged.{answers_in}
use Rattle.cat_guard.specs.Verdicts.{verdict_by, def_verdict}
use Rattle.cat_guard.proofs.GroupLaws.{atom_of_def}
use Rattle.cat_guard.proofs.judge.judged_def.Goals as goal

pub returns-in-Open : goal.returns-in-Open
returns-in-Open c =
    let answers = answers_in c.args.atoms.now c.args.region.now in (
      ap (def_verdict answers c.args.number) c.at.ensures
          ∙ ap (λ o. verdict_by o c.args.number) c.in-Open.ensures.0,
      atom_of_def c.args.target.now c.args.number c.at.result.now c.in-Open.atom c.at.ensures c.in-Open.ensures.1,
      c.in-Open.ensures.2,
    )
