use Rattle.cat_verify_shapes.proofs.LookupLemmas.{condition_stands}
use Rattle.cat_verify_shapes.proofs.forms.Forms.of_held.Goals as goal

pub returns-then-item : goal.returns-then-item
returns-then-item c =
    condition_stands c.args.decls.now c.args.self.now c.find.result c.args.item.now c.if-item.true c.find.ensures
