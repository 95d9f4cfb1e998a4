use Rattle.std.proofs.Common.{◌≡◌, ℕ, List, ◌||◌, drop}
use Rattle.std.specs.Prelude.{is_some}
use Rattle.std.specs.Ordering.{nat_cmp}
use Rattle.std.specs.Cmp.Lexicographic.{slice_cmp}
use Rattle.std.specs.BTreeMap.{get_by}
use Rattle.cat_json.specs.Keys.{is_among}
use Rattle.cat_json.specs.InputsRead.{given_names}
use Rattle.cat_json.proofs.known.given_names.Given as goal

abbrev pub invariant-loop-item : goal.invariant-loop-item
invariant-loop-item l = (name : List ℕ) → (is_some (get_by (λ k. slice_cmp nat_cmp name k.now) l.known)
    || is_among (given_names (drop l.item-index l.items)) name) ≡ is_among (given_names l.items) name
