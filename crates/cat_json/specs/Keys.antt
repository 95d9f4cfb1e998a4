-- Which keys an object may have.
use Rattle.std.specs.Prelude.{if◌then◌else◌}
use Rattle.std.specs.Prelude.{ℕ, Bool, true, false, List, [], ◌∷◌, Option, Some, None, Ok, Err, bytes_eq}
use Rattle.cat_json.specs.Paths.{Reading, refused, at_step}
use Rattle.serde_json.specs.Data.{Members, no_members, member}
use Rattle.cat_value.specs.declared.declaration.Field.{Field}
use Rattle.cat_json.specs.declared.step.Step.TheVariants.{Name}
use Rattle.cat_json.specs.declared.refusal.Reason.TheVariants.{Extra}

-- whether a name is one of some
abbrev pub is_among : List (List ℕ) → List ℕ → Bool
is_among [] name = false
is_among (known ∷ names) name = if bytes_eq known name then true else is_among names name

-- the first key that is not known: the first in byte order, since an object has its keys in that order
abbrev pub unknown_key : (List ℕ → Bool) → Members → Option (List ℕ)
unknown_key known no_members = None
unknown_key known (member key d ms) = if known key then unknown_key known ms else Some key

-- nothing, where no key is unknown
abbrev pub unless_unknown : {A : Type 0} → Option (List ℕ) → A → Reading A
unless_unknown None a = Ok a
unless_unknown (Some key) a = at_step (Name key) (refused Extra)

-- what is read of the keys of these names, where there are no others
abbrev pub with_no_others : {A : Type 0} → List (List ℕ) → Members → Reading A → Reading A
with_no_others names ms (Ok a) = unless_unknown (unknown_key (is_among names) ms) a
with_no_others names ms (Err refusal) = Err refusal

-- the fields' names
abbrev pub field_names : List Field → List (List ℕ)
field_names [] = []
field_names (f ∷ fs) = f.name ∷ field_names fs
