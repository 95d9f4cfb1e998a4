use Rattle.std.proofs.Common.{◌∙◌}
use Rattle.serde_json.specs.View.{members_view}
use Rattle.cat_json.specs.Keys.{is_among}
use Rattle.cat_json.specs.InputsRead.{given_names}
use Rattle.cat_json.proofs.KnownNames.{knows, unknown_key-same}
use Rattle.cat_json.proofs.known.unknown_variable.Goals as goal

pub returns : goal.returns
returns c = c.unknown_key.ensures ∙ unknown_key-same (knows c.in_ok-known.known)
    (is_among (given_names c.args.items.now)) c.in_ok-known.ensures (members_view c.args.members.now.entries)
