-- What an expression means: one line a form.
use Rattle.std.specs.Prelude.{Option, Some, None, Ok}
use Rattle.cat_pos.specs.declared.pos.Pos.{Pos}
use Rattle.cat_value.specs.Entries.{content_of}
use Rattle.cat_tree.specs.declared.name.Name.{Name}
use Rattle.cat_tree.specs.declared.expression.Pattern.{Pattern}
use Rattle.cat_tree.specs.declared.expression.Node.{Node}
use Rattle.cat_tree.specs.declared.expression.SurfaceArm.{SurfaceArm}
use Rattle.cat_tree.specs.declared.expression.SurfaceField.{SurfaceField}
use Rattle.cat_tree.specs.declared.expression.Node.TheOpen.{Node-F, SurfaceArm-F, SurfaceField-F}
use Rattle.cat_tree.specs.declared.expression.Node.TheFolds.{fold-Node}
use Rattle.cat_scope.specs.Names.{Names}
use Rattle.cat_names.specs.declared.typed.Typed.{Typed}
use Rattle.cat_names.specs.Found.{and_then, both}
use Rattle.cat_names.specs.Types.{expected_element}
use Rattle.cat_names.specs.Lookup.{type_names, type_found}
use Rattle.cat_names.specs.Naming.{name_found, function_found, called_scope, case_found, case_first, structure_found}
use Rattle.cat_names.specs.Naming.{scope_found}
use Rattle.cat_names.specs.Operations.{as_expected, literal_written, literal_of, binary_of, prefixed_of, sum_of}
use Rattle.cat_names.specs.Forms.{if_of, test_of}
use Rattle.cat_names.specs.Parts.{Meaning, elements_of, list_of, call_of}
use Rattle.cat_names.specs.Compound.{dotted, content_of_type, case_alone, structure_of_fields, scope_call_of}
use Rattle.cat_names.specs.Compound.{branches_of, match_over, over_list, combine_over}

-- a part of an expression: the name that it is, where it is one alone, and what it means
pub record NamedMeaning : Type 0 where
  pub name : Option Name
  pub means : Meaning

-- an arm with the meaning of its body, and a field with that of its value
abbrev pub ArmMeaning : Type 0
ArmMeaning = Pattern × NamedMeaning

-- the name of a field, and what its value means
abbrev pub FieldMeaning : Type 0
FieldMeaning = Name × NamedMeaning

-- the same expression, begun by a parenthesis; that its type isn't the one wanted stands inside, where it stood
abbrev pub starting : Pos → Typed → Typed
starting p x = record { first = p; operator = x.operator; expr = x.expr; ty = x.ty }

-- what a part means that has a name or a pattern
abbrev pub beside : {A : Type 0} → A × NamedMeaning → A × Meaning
beside part = (part.0, part.1.means)

-- an expression, where each part tells what it means
abbrev pub meaning_of : Names → Node-F NamedMeaning ArmMeaning FieldMeaning → Meaning
meaning_of ns (Node-F.Literal l p) ls ex = as_expected ex (literal_of p (literal_written l))
meaning_of ns (Node-F.Name w) ls ex = as_expected ex (name_found ns w ls)
meaning_of ns (Node-F.Case c) ls ex =
    as_expected ex (and_then (case_found ns c) (λ k. case_alone (case_first c) k (content_of ns.decls k.0 k.1)))
meaning_of ns (Node-F.Parens p e) ls ex = and_then (e.means ls ex) (λ x. Ok (starting p x))
meaning_of ns (Node-F.Field e w) ls ex = as_expected ex (dotted ns w e.means ls (called_scope ns e.name ls))
meaning_of ns (Node-F.Prefixed o p e) ls ex = as_expected ex (and_then (e.means ls None) (prefixed_of o p))
meaning_of ns (Node-F.Sum p t l) ls ex =
    as_expected ex (both (type_found (type_names ns.decls) t) (l.means ls None) (sum_of p))
meaning_of ns (Node-F.Content c e) ls ex = as_expected ex (and_then (case_found ns c) (λ k.
    content_of_type (case_first c) k e.means ls (content_of ns.decls k.0 k.1)))
meaning_of ns (Node-F.Call w args) ls ex =
    as_expected ex (and_then (function_found ns w ls) (call_of (λ e. e.means) w args ls))
meaning_of ns (Node-F.Binary o p a b) ls ex = as_expected ex (both (a.means ls None) (b.means ls None) (binary_of o p))
meaning_of ns (Node-F.Test e p c) ls ex = as_expected ex (both (e.means ls None) (case_found ns c) (test_of p))
meaning_of ns (Node-F.List p es) ls ex =
    as_expected ex (and_then (elements_of (λ e. e.means) p es ls (expected_element ex)) (list_of ns p))
meaning_of ns (Node-F.Structure u fs) ls ex =
    as_expected ex (and_then (structure_found ns u) (structure_of_fields beside ns u fs ls))
meaning_of ns (Node-F.ScopeCall p u fs w) ls ex =
    as_expected ex (and_then (scope_found ns u) (scope_call_of beside ns p u fs w ls))
meaning_of ns (Node-F.If p c a b) ls ex = both (c.means ls None) (branches_of a.means b.means ls ex) (if_of p)
meaning_of ns (Node-F.Match p e arms) ls ex = and_then (e.means ls None) (match_over beside ns p arms ls ex)
meaning_of ns (Node-F.Each k p w l e) ls ex =
    as_expected ex (and_then (l.means ls None) (over_list ns k p w e.means ls))
meaning_of ns (Node-F.Combine c l s e) ls ex =
    as_expected ex (both (l.means ls None) (s.means ls None) (combine_over c.pos c.element c.sum e.means ls))

-- the name that an expression is, where it is one alone
abbrev pub name_alone : {A B C : Type 0} → Node-F A B C → Option Name
name_alone (Node-F.Name w) = Some w
name_alone _ = None

-- an expression as a part of another
abbrev pub named_meaning_of : Names → Node-F NamedMeaning ArmMeaning FieldMeaning → NamedMeaning
named_meaning_of ns e = record { name = name_alone e; means = meaning_of ns e }

-- an arm, with what its body means
abbrev pub arm_meaning : SurfaceArm-F NamedMeaning ArmMeaning FieldMeaning → ArmMeaning
arm_meaning a = (a.pattern, a.body)

-- a field, with what its value means
abbrev pub field_meaning : SurfaceField-F NamedMeaning ArmMeaning FieldMeaning → FieldMeaning
field_meaning f = (f.name, f.value)

-- an expression as a part
unfoldable pub named_meaning : Names → Node → NamedMeaning
named_meaning ns = fold-Node NamedMeaning ArmMeaning FieldMeaning (named_meaning_of ns) arm_meaning field_meaning

-- what an expression means under local names, where a type is expected or not: itself with each name as the number of
-- what it names, and its type; or faults that stand in it: of a form itself where its parts have answers, and of what
-- hangs on a part only where that has one
unfoldable pub meant : Names → Node → Meaning
meant ns e = (named_meaning ns e).means

-- a field with what its value means
abbrev pub field_meant : Names → SurfaceField → Name × Meaning
field_meant ns f = (f.name, meant ns f.value)

-- an arm with what its body means
abbrev pub arm_meant : Names → SurfaceArm → Pattern × Meaning
arm_meant ns a = (a.pattern, meant ns a.body)
