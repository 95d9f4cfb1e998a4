use Rattle.std.proofs.Common.{sym, List}
use Rattle.std.proofs.lemmas.Result.{err_from_is_err_and}
use Rattle.cat_image.specs.declared.tables.ImageTarget.{ImageTarget}
use Rattle.cat_verify_tables.specs.inside.Causes.{IsFaulty}
use Rattle.cat_verify_tables.specs.inside.TargetNaming.{IsEntryOf, IsWrongEntry}
use Rattle.cat_verify_tables.proofs.CauseLemmas.{refuses}
use Rattle.cat_verify_tables.proofs.EntryLemmas.{faulty, told_more}
use Rattle.cat_verify_tables.proofs.targets.Naming.entries.Goals as goal

pub returns-in_err-made-clause-cause : goal.returns-in_err-made-clause-cause
returns-in_err-made-clause-cause c =
    let p = err_from_is_err_and c.from_residual-in_err-made.result c.from_residual-in_err-made.ensures.1 in
    let lines = c.args.lines.now in
    let l = c.loop-at in
    let line = c.index-lines-at.result in
    let Fault = λ (before : List ImageTarget). IsWrongEntry c.args.self.now.decls.now c.args.self.now.files in
    rw (p.1, p.2) (refuses (IsFaulty Fault c.args.first lines) c.in_ok-number.number
    (λ wrong. faulty Fault c.args.first lines l.at line c.in_ok-number.number c.loop-at-test.true
    (sym c.index-lines-at.is) c.in_ok-number.ensures wrong)
    c.in_err-made.field-0.0 c.in_err-made.ensures.cause)

pub loop-at-preserved : goal.loop-at-preserved
loop-at-preserved c =
    let l = c.loop-at in
    rw c.in_ok-push.ensures.ok (told_more (λ _. IsEntryOf c.args.self.now.decls.now c.args.self.now.files)
    c.args.lines.now l.at
    c.index-lines-at.result l.entries c.in_ok-made.made c.loop-at-test.true (sym c.index-lines-at.is) l.invariant
    c.in_ok-made.ensures.told)
