-- Names of an expression that name nothing whatever the types are, and fields that are given twice: one line a form.
use Rattle.std.specs.Prelude.{ℕ, bytes_eq, not, ◌||◌, Bool, false, List, [], ◌∷◌, ◌++◌, map, flat_map, Option, Some}
use Rattle.std.specs.Prelude.{None}
use Rattle.std.specs.Option.{is_some}
use Rattle.cat_tree.specs.declared.name.Name.{Name}
use Rattle.cat_tree.specs.declared.name.CaseName.{CaseName}
use Rattle.cat_tree.specs.declared.name.CaseName.TheVariants as case
use Rattle.cat_tree.specs.declared.name.Type as written
use Rattle.cat_tree.specs.declared.expression.Pattern.{Pattern}
use Rattle.cat_tree.specs.declared.expression.Pattern.TheVariants as pattern
use Rattle.cat_tree.specs.declared.expression.Node.{Node}
use Rattle.cat_tree.specs.declared.expression.Node.TheOpen.{Node-F, SurfaceArm-F, SurfaceField-F}
use Rattle.cat_tree.specs.declared.expression.Node.TheFolds.{fold-Node}
use Rattle.cat_names.specs.declared.fault.Fault.{Fault}
use Rattle.cat_names.specs.declared.fault.Fault.TheVariants.{NameTwice, NameUnknown}
use Rattle.cat_names.specs.Lists.{clashing}
use Rattle.cat_names.specs.Found.{fault_if}
use Rattle.cat_names.specs.Lookup.{TypeNames, type_named, type_written}

-- whether a text is one of some names
abbrev pub is_name : List ℕ → List (List ℕ) → Bool
is_name w [] = false
is_name w (name ∷ names) = bytes_eq name w || is_name w names

-- the later of two equal names
abbrev pub twice : List Name → List Fault
twice names = map (λ w. NameTwice w.pos) (clashing (λ w other. bytes_eq other.text w.text) names)

-- a name, where it names nothing
abbrev pub unless : Bool → Name → List Fault
unless known w = fault_if (not known) (NameUnknown w.pos)

-- what names may name: types, scopes, and the items of the scope at hand
pub record Known : Type 0 where
  pub types : TypeNames
  pub scopes : List (List ℕ)
  pub items : List (List ℕ)

-- the faults of names, under these bound names
abbrev pub Unknown : Type 0
Unknown = List (List ℕ) → List Fault

-- a bound name or an item
abbrev pub in_reach : Known → Name → Unknown
in_reach known w bound = unless (is_name w.text bound || is_name w.text known.items) w

-- the name of a type
abbrev pub of_type : Known → Name → List Fault
of_type known u = unless (is_some (type_named known.types u.text)) u

-- a type that is written
abbrev pub in_type : Known → written.Type → List Fault
in_type known t = fault_if (not (is_some (type_written known.types t))) (NameUnknown t.pos)

-- the enumeration of a case, where it is named
abbrev pub in_case : Known → CaseName → List Fault
in_case known (case.Bare c) = []
in_case known (case.Qualified u c) = of_type known u

-- the enumeration that a pattern names
abbrev pub in_pattern : Known → Pattern → List Fault
in_pattern known (pattern.Case c w) = in_case known c
in_pattern known pattern.Anything = []

-- the name of a content
abbrev pub content_name : Option Name → List (List ℕ)
content_name None = []
content_name (Some w) = w.text ∷ []

-- the names that a pattern binds
abbrev pub bound_by : Pattern → List (List ℕ)
bound_by (pattern.Case c w) = content_name w
bound_by pattern.Anything = []

-- fields: each name once
abbrev pub in_fields : List (Name × Unknown) → Unknown
in_fields fields bound = twice (map (λ f. f.0) fields) ++ flat_map (λ f. f.1 bound) fields

-- arms, each with the name that it binds
abbrev pub in_arms : Known → List (Pattern × Unknown) → Unknown
in_arms known arms bound = flat_map (λ a. in_pattern known a.0 ++ a.1 (bound ++ bound_by a.0)) arms

-- an expression, where each part tells its faults
abbrev pub unknown_of : Known → Node-F Unknown (Pattern × Unknown) (Name × Unknown) → Unknown
unknown_of known (Node-F.Literal l p) bound = []
unknown_of known (Node-F.Name w) bound = in_reach known w bound
unknown_of known (Node-F.Case c) bound = in_case known c
unknown_of known (Node-F.Parens p e) bound = e bound
unknown_of known (Node-F.Field e w) bound = e bound
unknown_of known (Node-F.Prefixed o p e) bound = e bound
unknown_of known (Node-F.Sum p t l) bound = in_type known t ++ l bound
unknown_of known (Node-F.Content c e) bound = in_case known c ++ e bound
unknown_of known (Node-F.Call w args) bound = in_reach known w bound ++ flat_map (λ e. e bound) args
unknown_of known (Node-F.Binary o p a b) bound = a bound ++ b bound
unknown_of known (Node-F.Test e p c) bound = e bound ++ in_case known c
unknown_of known (Node-F.List p es) bound = flat_map (λ e. e bound) es
unknown_of known (Node-F.Structure u fields) bound = of_type known u ++ in_fields fields bound
unknown_of known (Node-F.ScopeCall p u fields w) bound =
    unless (is_name u.text known.scopes) u ++ in_fields fields bound
unknown_of known (Node-F.If p c a b) bound = c bound ++ a bound ++ b bound
unknown_of known (Node-F.Match p e arms) bound = e bound ++ in_arms known arms bound
unknown_of known (Node-F.Each k p w l e) bound = l bound ++ e (bound ++ w.text ∷ [])
unknown_of known (Node-F.Combine c l s e) bound = l bound ++ s bound ++ e (bound ++ c.element.text ∷ c.sum.text ∷ [])

-- an arm, with the faults of its body
abbrev pub arm_unknown : SurfaceArm-F Unknown (Pattern × Unknown) (Name × Unknown) → Pattern × Unknown
arm_unknown a = (a.pattern, a.body)

-- a field, with the faults of its value
abbrev pub field_unknown : SurfaceField-F Unknown (Pattern × Unknown) (Name × Unknown) → Name × Unknown
field_unknown f = (f.name, f.value)

-- the names of an expression that name nothing, and the fields in it that are given twice, under these bound names
unfoldable pub unknown_in : Known → Node → Unknown
unknown_in known = fold-Node Unknown (Pattern × Unknown) (Name × Unknown) (unknown_of known) arm_unknown field_unknown
