-- Names that are put into a map one after another.
use Rattle.std.proofs.Common.{◌≡◌, ℕ, ◌<◌, ◌+◌, List, drop, drop-cons, get_or, length, add-one, Bool, true, false, ◌||◌}
use Rattle.std.proofs.Common.{cond, Option, Some, BTreeMap, Bor, bytes_eq, refl, ap, ◌∙◌}
use Rattle.std.specs.Prelude.{is_some}
use Rattle.std.specs.Ordering.{nat_cmp}
use Rattle.std.specs.Cmp.Lexicographic.{slice_cmp}
use Rattle.std.specs.BTreeMap.{get_by, UpdatesBy}
use Rattle.std.proofs.lemmas.Map.Text.{btree_map_updates_str}
use Rattle.cat_value.specs.declared.declaration.Field.{Field}
use Rattle.serde_json.specs.Data.{Members, no_members, member}
use Rattle.cat_value.specs.declared.declaration.ItemDecl.{ItemDecl}
use Rattle.cat_value.specs.Inputs.{may_be_given}
use Rattle.cat_json.specs.InputsRead.{given_names}
use Rattle.cat_json.specs.Keys.{is_among, field_names, unknown_key}

-- whether a map has a name
abbrev pub knows : BTreeMap (Bor (List ℕ)) (Unit {0}) → List ℕ → Bool
knows known name = is_some (get_by (λ k. slice_cmp nat_cmp name k.now) known)

by_test : (same old rest : Bool) (found : Option (Unit {0})) → is_some found ≡ old
    → (is_some (cond same (Some tt) found) || rest) ≡ (old || cond same true rest)
by_test true true rest found e = refl
by_test true false rest found e = refl
by_test false old rest found e = ap (λ b. b || rest) e

-- one name more
pub knows-next : (key name : List ℕ) (rest : Bool) (old new : BTreeMap (Bor (List ℕ)) (Unit {0}))
    → UpdatesBy (λ x y. slice_cmp nat_cmp x.now y.now) (λ k. slice_cmp nat_cmp key k.now) old new (Some tt)
    → (knows new name || rest) ≡ (knows old name || cond (bytes_eq key name) true rest)
knows-next key name rest old new updates =
    ap (λ found. is_some found || rest) (btree_map_updates_str key old new _ updates name) ∙ by_test (bytes_eq key name)
    (knows old name) rest (get_by (λ k. slice_cmp nat_cmp name k.now) old) refl

pub field_names-next : (fs : List Field) (i : ℕ) (f : Field) (key name : List ℕ) → i < length fs → f ≡ get_or fs i f
    → key ≡ f.name
    → cond (bytes_eq key name) true (is_among (field_names (drop (i + 1) fs)) name) ≡ is_among (field_names (drop i fs))
    name
field_names-next fs i f key name h is same = rw (drop-cons fs i f, ← is, add-one, same) refl

-- the same keys are known
pub unknown_key-same : (f g : List ℕ → Bool) → ((name : List ℕ) → f name ≡ g name) → (ms : Members)
    → unknown_key f ms ≡ unknown_key g ms
unknown_key-same f g same no_members = refl
unknown_key-same f g same (member key d ms) = rw (same key, unknown_key-same f g same ms) refl

pub given_names-next : (is : List ItemDecl) (i : ℕ) (it : ItemDecl) (key name : List ℕ) → i < length is
    → it ≡ get_or is i it → may_be_given it.kind ≡ true → key ≡ it.name
    → cond (bytes_eq key name) true (is_among (given_names (drop (i + 1) is)) name) ≡ is_among (given_names (drop i is))
    name
given_names-next is i it key name h at given same = rw (drop-cons is i it, ← at, add-one, same, given) refl
