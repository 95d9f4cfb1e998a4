use Rattle.std.proofs.Common.{rules}
use Rattle.cat_verify.proofs.StampLemmas.{next_none, next_some}
use Rattle.cat_verify.proofs.stamps.pass_to_next.Goals as goal

pub returns-then-not-goes_on : goal.returns-then-not-goes_on
returns-then-not-goes_on c = next_none _ c.args.arrival.place c.args.arrival.stamp c.args.waiting.now (search rules)

pub returns : goal.returns
returns c =
    next_some _ c.args.arrival.place c.args.arrival.stamp c.args.waiting.now c.push.new.self (search rules)
    (search rules)
