use Rattle.std.proofs.Common.{◌∙◌, ◌++◌, ◌∷◌, [], List, sym, ap, subst, inl, inr, arith}
use Rattle.std.proofs.lemmas.Result.{err_from_is_err_and}
use Rattle.std.proofs.lemmas.List.{take_all}
use Rattle.cat_image.specs.Words.{Text}
use Rattle.cat_image.specs.declared.tables.ImageItem.{ImageItem}
use Rattle.cat_names.specs.Limits.{most_items}
use Rattle.cat_verify_tables.specs.TypeWords.{IsPartName}
use Rattle.cat_verify_tables.specs.WrongParts.{IsWrongName}
use Rattle.cat_verify_tables.specs.inside.Entries.{AreTold}
use Rattle.cat_verify_tables.specs.inside.ItemWords.{IsItemOf, item_names, HasWrongItem, IsWrongOrLateItem}
use Rattle.cat_verify_tables.proofs.CauseLemmas.{refuses}
use Rattle.cat_verify_tables.proofs.EntryLemmas.{faulty, few_more, late_at, map_more, told_more}
use Rattle.cat_verify_tables.proofs.scoping.items.Goals as goal

pub returns-in_err-needed-clause-cause : goal.returns-in_err-needed-clause-cause
returns-in_err-needed-clause-cause c =
    let p = err_from_is_err_and c.from_residual-in_err-needed.result c.from_residual-in_err-needed.ensures.1 in
    let lines = c.args.lines.now in
    let l = c.loop-at in
    let line = c.index-lines-at.result in
    let Fault = IsWrongOrLateItem c.args.known.now in
    rw (p.1, p.2) (refuses (HasWrongItem c.args.known.now lines c.args.first) c.in_ok-number.number
    (λ late. faulty Fault c.args.first lines l.at line c.in_ok-number.number c.loop-at-test.true
    (sym c.index-lines-at.is) c.in_ok-number.ensures (inl (late_at lines l.at most_items c.loop-at-test.true late)))
    c.in_err-needed.field-0.0 c.in_err-needed.ensures.cause)

pub returns-in_err-add_part_name-clause-cause : goal.returns-in_err-add_part_name-clause-cause
returns-in_err-add_part_name-clause-cause c =
    let p = err_from_is_err_and c.from_residual-in_err-add_part_name.result
    c.from_residual-in_err-add_part_name.ensures.1 in
    let lines = c.args.lines.now in
    let l = c.loop-at in
    let line = c.index-lines-at.result in
    let Fault = IsWrongOrLateItem c.args.known.now in
    rw (p.1, p.2) (refuses (HasWrongItem c.args.known.now lines c.args.first) c.in_ok-number.number
    (λ wrong. faulty Fault c.args.first lines l.at line c.in_ok-number.number c.loop-at-test.true
    (sym c.index-lines-at.is) c.in_ok-number.ensures
    (inr (inl (subst (λ (ns : List Text). IsWrongName IsPartName ns line.name) l.invariant.names wrong))))
    c.in_err-add_part_name.field-0.0 c.in_err-add_part_name.ensures.cause)

pub returns-in_err-made-clause-cause : goal.returns-in_err-made-clause-cause
returns-in_err-made-clause-cause c =
    let p = err_from_is_err_and c.from_residual-in_err-made.result c.from_residual-in_err-made.ensures.1 in
    let lines = c.args.lines.now in
    let l = c.loop-at in
    let line = c.index-lines-at.result in
    let Fault = IsWrongOrLateItem c.args.known.now in
    rw (p.1, p.2) (refuses (HasWrongItem c.args.known.now lines c.args.first) c.in_ok-number.number
    (λ wrong. faulty Fault c.args.first lines l.at line c.in_ok-number.number c.loop-at-test.true
    (sym c.index-lines-at.is) c.in_ok-number.ensures (inr (inr wrong)))
    c.in_err-made.field-0.0 c.in_err-made.ensures.cause)

pub loop-at-preserved : goal.loop-at-preserved
loop-at-preserved c =
    let lines = c.args.lines.now in
    let l = c.loop-at in
    let line = c.index-lines-at.result in
    let within = c.loop-at-test.true in
    let is = sym c.index-lines-at.is in
    record {
      names = c.in_ok-add_part_name.ensures.added ∙ ap (λ (ns : List Text). ns ++ line.name ∷ []) l.invariant.names
          ∙ sym (map_more (λ (f : ImageItem). f.name) lines l.at line within is);
      told = rw c.in_ok-push.ensures.ok
          (told_more (λ front. IsItemOf c.args.known.now (item_names front)) lines l.at line l.items c.in_ok-made.made
          within is l.invariant.told (record {
            decl = c.in_ok-made.ensures.told;
            right = subst (λ (ns : List Text). IsWrongName IsPartName ns line.name → ⊥) l.invariant.names
                c.in_ok-add_part_name.ensures.right;
          }));
      few = few_more l.at most_items c.in_ok-needed.ensures.passes;
    }

pub returns-clause-told : goal.returns-clause-told
returns-clause-told c =
    let lines = c.args.lines.now in
    let l = c.loop-at in
    record {
      few = omega (arith, c.loop-at-test.false, l.invariant.few);
      each = subst (λ (ls : List ImageItem).
          AreTold (λ front. IsItemOf c.args.known.now (item_names front)) [] ls l.items)
          (take_all l.at lines (omega (arith, c.loop-at-test.false))) l.invariant.told;
    }
