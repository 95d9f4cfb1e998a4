use Rattle.std.proofs.Common.{◌≡◌, [], ◌∷◌, codes}
use Rattle.serde_json.specs.View.{members_view}
use Rattle.cat_json.specs.Keys.{is_among, unknown_key}
use Rattle.cat_json.proofs.duration.other_part.Given as goal

abbrev pub invariant-loop-key : goal.invariant-loop-key
invariant-loop-key l =
    unknown_key (is_among (codes "days" ∷ codes "months" ∷ [])) (members_view l.key-iterator)
    ≡ unknown_key (is_among (codes "days" ∷ codes "months" ∷ [])) (members_view l.members.entries)
