use Rattle.std.proofs.Common.{◌≡◌}
use Rattle.std.specs.Prelude.{is_some}
use Rattle.std.specs.Ordering.{nat_cmp}
use Rattle.std.specs.Cmp.Lexicographic.{slice_cmp}
use Rattle.std.specs.BTreeMap.{get_by}
use Rattle.serde_json.specs.View.{members_view}
use Rattle.cat_json.specs.Keys.{unknown_key}
use Rattle.cat_json.proofs.known.unknown_key.Given as goal

abbrev pub invariant-loop-key : goal.invariant-loop-key
invariant-loop-key l =
    unknown_key (λ name. is_some (get_by (λ k. slice_cmp nat_cmp name k.now) l.known)) (members_view l.key-iterator)
    ≡ unknown_key (λ name. is_some (get_by (λ k. slice_cmp nat_cmp name k.now) l.known))
    (members_view l.members.entries)
