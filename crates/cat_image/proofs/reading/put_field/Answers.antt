use Rattle.cat_image.proofs.InnerLemmas.{field_put}
use Rattle.cat_image.proofs.reading.put_field.Goals as goal

pub returns : goal.returns
returns c =
    field_put c.args.reading.now c.args.field c.pop.new.self c.push-2.new.self c.in-Some.structure c.push.new.self
    c.if-reading-ne-STRUCTURES.false c.in-Some.ensures c.in_ok-push.ensures.ok c.in_ok-push-2.ensures.ok
