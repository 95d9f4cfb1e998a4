use Rattle.std.proofs.Common.{◌≡◌, ℕ, List, ◌||◌, drop}
use Rattle.std.specs.Prelude.{is_some}
use Rattle.std.specs.Ordering.{nat_cmp}
use Rattle.std.specs.Cmp.Lexicographic.{slice_cmp}
use Rattle.std.specs.BTreeMap.{get_by}
use Rattle.cat_json.specs.Keys.{is_among, field_names}
use Rattle.cat_json.proofs.known.field_names.Given as goal

abbrev pub invariant-loop-field : goal.invariant-loop-field
invariant-loop-field l = (name : List ℕ) → (is_some (get_by (λ k. slice_cmp nat_cmp name k.now) l.known)
    || is_among (field_names (drop l.field-index l.fields)) name) ≡ is_among (field_names l.fields) name
