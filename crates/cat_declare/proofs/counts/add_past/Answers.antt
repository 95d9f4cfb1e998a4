use Rattle.std.proofs.Common.{◌≡◌, ◌∙◌, ◌++◌, Some, None, slice_get, rules, sym, ap}
use Rattle.std.proofs.lemmas.List.{append-nil}
use Rattle.cat_declare.proofs.OneMore.{past_some, past_none}
use Rattle.cat_declare.proofs.counts.add_past.Goals as goal

pub returns-in-Some : goal.returns-in-Some
returns-in-Some g c =
    let at : slice_get c.args.things.now c.args.limit ≡ Some c.in-Some.thing.now = sym c.in-Some.ensures.value in
    let is = past_some g.T.Written.written c.args.things.now c.args.limit c.in-Some.thing.now at in
    rw is (search rules)

pub returns-in-None : goal.returns-in-None
returns-in-None g c =
    let at : slice_get c.args.things.now c.args.limit ≡ None = sym c.in-None.ensures.value in
    sym (ap (λ fs. c.args.faults.now ++ fs) (past_none g.T.Written.written c.args.things.now c.args.limit at)
    ∙ append-nil c.args.faults.now)
