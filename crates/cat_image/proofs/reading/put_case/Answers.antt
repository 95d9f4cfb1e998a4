use Rattle.cat_image.proofs.InnerLemmas.{case_put}
use Rattle.cat_image.proofs.reading.put_case.Goals as goal

pub returns : goal.returns
returns c =
    case_put c.args.reading.now c.args.case c.pop.new.self c.push-2.new.self c.in-Some.enumeration c.push.new.self
    c.if-reading-ne-ENUMERATIONS.false c.in-Some.ensures c.in_ok-push.ensures.ok c.in_ok-push-2.ensures.ok
