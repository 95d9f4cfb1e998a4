use Rattle.cat_image.proofs.InnerLemmas.{item_put}
use Rattle.cat_image.proofs.reading.put_item.Goals as goal

pub returns : goal.returns
returns c =
    item_put c.args.reading.now c.args.item c.pop.new.self c.push-2.new.self c.in-Some.scope c.push.new.self
    c.if-reading-ne-SCOPES.false c.in-Some.ensures c.in_ok-push.ensures.ok c.in_ok-push-2.ensures.ok
