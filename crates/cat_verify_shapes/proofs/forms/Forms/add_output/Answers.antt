use Rattle.std.proofs.Common.{sym, ◌∙◌}
use Rattle.cat_verify_shapes.proofs.AddLemmas.{adds_output}
use Rattle.cat_verify_shapes.proofs.forms.Forms.add_output.Goals as goal

pub returns : goal.returns
returns c =
    adds_output c.args.decls.now c.args.self.now c.add_ty.new.self c.add.new.self c.add.result c.args.item.now
    c.args.row c.in_ok-form.form (sym c.is_output.ensures ∙ c.if-not-is_output.false) c.in_ok-form.ensures c.add.ensures
