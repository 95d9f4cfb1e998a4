use Rattle.std.proofs.Common.{◌∙◌, ◌||◌, ◌+◌, ap, rules, drop}
use Rattle.cat_json.specs.Keys.{is_among}
use Rattle.cat_json.specs.InputsRead.{given_names}
use Rattle.cat_json.proofs.KnownNames.{knows, knows-next, given_names-next}
use Rattle.cat_json.proofs.known.given_names.Goals as goal

pub loop-item-preserved : goal.loop-item-preserved
loop-item-preserved c = λ name.
    let l = c.loop-item in
    knows-next c.as_str.result.now name (is_among (given_names (drop (l.item-index + 1) c.args.items.now)) name) l.known
    c.insert.new.self c.in_ok-insert.ensures.updates
    ∙ ap (λ rest. knows l.known name || rest) (given_names-next c.args.items.now l.item-index c.item-item.result
    c.as_str.result.now name (search rules) (search rules) (search rules) (search rules))
    ∙ l.invariant name
