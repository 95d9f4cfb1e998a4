use Rattle.std.proofs.Common.{◌∙◌, ◌++◌, ◌∷◌, [], List, sym, ap, subst}
use Rattle.std.proofs.lemmas.Result.{err_from_is_err_and}
use Rattle.cat_image.specs.Words.{Text}
use Rattle.cat_image.specs.declared.tables.ImageField.{ImageField}
use Rattle.cat_verify_tables.specs.inside.PartWords.{IsFieldOf, IsWrongField, field_names, HasWrongField}
use Rattle.cat_verify_tables.proofs.CauseLemmas.{refuses}
use Rattle.cat_verify_tables.proofs.EntryLemmas.{faulty, map_more, told_more}
use Rattle.cat_verify_tables.proofs.members.fields.Goals as goal

pub returns-in_err-made-clause-cause : goal.returns-in_err-made-clause-cause
returns-in_err-made-clause-cause c =
    let p = err_from_is_err_and c.from_residual-in_err-made.result c.from_residual-in_err-made.ensures.1 in
    let lines = c.args.lines.now in
    let l = c.loop-at in
    let line = c.index-lines-at.result in
    let Fault = λ (front : List ImageField). IsWrongField c.args.types.now (field_names front) in
    rw (p.1, p.2) (refuses (HasWrongField c.args.types.now lines c.args.first) c.in_ok-number.number
    (λ wrong. faulty Fault c.args.first lines l.at line c.in_ok-number.number c.loop-at-test.true
    (sym c.index-lines-at.is) c.in_ok-number.ensures
    (subst (λ (ns : List Text). IsWrongField c.args.types.now ns line) l.invariant.names wrong))
    c.in_err-made.field-0.0 c.in_err-made.ensures.cause)

pub loop-at-preserved : goal.loop-at-preserved
loop-at-preserved c =
    let lines = c.args.lines.now in
    let l = c.loop-at in
    let line = c.index-lines-at.result in
    let within = c.loop-at-test.true in
    let is = sym c.index-lines-at.is in
    record {
      names = c.in_ok-made.ensures.named ∙ ap (λ (ns : List Text). ns ++ line.name ∷ []) l.invariant.names
          ∙ sym (map_more (λ (f : ImageField). f.name) lines l.at line within is);
      told = rw c.in_ok-push.ensures.ok
          (told_more (λ front. IsFieldOf c.args.types.now (field_names front)) lines l.at line l.fields
          c.in_ok-made.made within is
          l.invariant.told (subst (λ (ns : List Text). IsFieldOf c.args.types.now ns line c.in_ok-made.made)
          l.invariant.names c.in_ok-made.ensures.told));
    }
