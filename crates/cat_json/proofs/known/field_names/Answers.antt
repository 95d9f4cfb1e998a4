use Rattle.std.proofs.Common.{◌∙◌, ◌||◌, ◌+◌, ap, rules, drop}
use Rattle.cat_json.specs.Keys.{is_among, field_names}
use Rattle.cat_json.proofs.KnownNames.{knows, knows-next, field_names-next}
use Rattle.cat_json.proofs.known.field_names.Goals as goal

pub loop-field-preserved : goal.loop-field-preserved
loop-field-preserved c = λ name.
    let l = c.loop-field in
    knows-next c.as_str.result.now name (is_among (field_names (drop (l.field-index + 1) c.args.fields.now)) name)
    l.known c.insert.new.self c.in_ok-insert.ensures.updates
    ∙ ap (λ rest. knows l.known name || rest) (field_names-next c.args.fields.now l.field-index c.field-item.result
    c.as_str.result.now name (search rules) (search rules) (search rules))
    ∙ l.invariant name
