use Rattle.std.proofs.Common.{◌∙◌, ◌++◌, ◌∷◌, [], List, sym, ap, subst}
use Rattle.std.proofs.lemmas.Result.{err_from_is_err_and}
use Rattle.cat_image.specs.Words.{Text}
use Rattle.cat_scope.specs.Names.{IsOneOf}
use Rattle.cat_verify_tables.specs.inside.Causes.{IsFaulty}
use Rattle.cat_verify_tables.specs.inside.NamedWords.{IsFileTwice, names_in}
use Rattle.cat_verify_tables.proofs.CauseLemmas.{refuses}
use Rattle.cat_verify_tables.proofs.EntryLemmas.{faulty, one_more, right_more}
use Rattle.cat_verify_tables.proofs.NameLemmas.{names_push}
use Rattle.cat_verify_tables.proofs.named.refuse_files.Goals as goal

pub returns-in_err-add-clause-cause : goal.returns-in_err-add-clause-cause
returns-in_err-add-clause-cause c =
    let p = err_from_is_err_and c.from_residual-in_err-add.result c.from_residual-in_err-add.ensures.1 in
    let files = c.args.files.now in
    let l = c.loop-at in
    let name = c.index-files-at.result in
    rw (p.1, p.2) (refuses (IsFaulty IsFileTwice c.args.first files) c.in_ok-line.line
    (λ there. faulty IsFileTwice c.args.first files l.at name c.in_ok-line.line c.loop-at-test.true
    (sym c.index-files-at.is) c.in_ok-line.ensures (subst (IsOneOf name) l.invariant.names there))
    c.in_err-add.field-0.0 c.in_err-add.ensures.cause)

pub loop-at-preserved : goal.loop-at-preserved
loop-at-preserved c =
    let files = c.args.files.now in
    let l = c.loop-at in
    let name = c.index-files-at.result in
    record {
      names = ap names_in c.in_ok-add.ensures.added ∙ names_push l.names name 0
          ∙ ap (λ (ns : List Text). ns ++ name ∷ []) l.invariant.names
          ∙ sym (one_more files l.at name c.loop-at-test.true (sym c.index-files-at.is));
      right = right_more IsFileTwice files l.at name c.loop-at-test.true (sym c.index-files-at.is) l.invariant.right
          (λ there. c.in_ok-add.ensures.fresh (subst (IsOneOf name) (sym l.invariant.names) there));
    }
