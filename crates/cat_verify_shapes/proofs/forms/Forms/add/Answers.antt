use Rattle.std.proofs.Common.{rules, ◌≡◌, refl, sym, subst}
use Rattle.cat_verify_shapes.specs.inside.Growing.{Adds}
use Rattle.cat_verify_shapes.proofs.KeyLemmas.{added_by}
use Rattle.cat_verify_shapes.proofs.forms.Forms.add.Goals as goal

pub returns : goal.returns
returns c =
    let s = c.args.self.now in
    let after = record s { kinds = c.insert_full.new.self } in
    let number : c.in-Ok-try_from.number ≡ c.in-Ok.index = search rules in
    subst (Adds s after c.args.form) (sym number)
    (added_by s after c.args.form c.in-Ok.index (c.has_parts.ensures c.if-not-has_parts.false) c.in-Ok.ensures.keys refl
    refl c.in-Ok.ensures.stored)
