-- Worked examples of what stands against targets, rules, roundings, names of types and cases, and heights.
use Rattle.std.proofs.Common.{◌≡◌, ℕ, true, false, IsTrue, List, [], ◌∷◌, Some, None, Err, rules}
use Rattle.cat_pos.specs.declared.pos.Pos.{Pos}
use Rattle.cat_value.specs.declared.ty.Ty.TheVariants as flat_ty
use Rattle.cat_value.specs.declared.declaration.Structure.{Structure}
use Rattle.cat_value.specs.declared.declaration.Enumeration.{Enumeration}
use Rattle.cat_value.specs.declared.declaration.Kind.TheVariants as kind
use Rattle.cat_value.specs.declared.declaration.ItemDecl.{ItemDecl}
use Rattle.cat_value.specs.declared.declaration.Scope.{Scope}
use Rattle.cat_value.specs.Declarations.{are_sound}
use Rattle.cat_tree.specs.declared.name.CaseName.TheVariants as case
use Rattle.cat_tree.specs.declared.name.Base.TheVariants as base
use Rattle.cat_tree.specs.declared.name.Type as types
use Rattle.cat_tree.specs.declared.expression.Operator.TheVariants as operator
use Rattle.cat_tree.specs.declared.expression.Node.TheVariants as leaf
use Rattle.cat_tree.specs.declared.expression.Node.TheViews as node
use Rattle.cat_tree.specs.declared.program.Fulfilled.TheVariants as fulfilled
use Rattle.cat_tree.specs.declared.program.VariableKind.TheVariants as written
use Rattle.cat_tree.specs.declared.program.Item.TheVariants as item
use Rattle.cat_scope.specs.Names.{Names}
use Rattle.cat_names.specs.declared.fault.Fault.TheVariants.{NameTwice, NameUnknown, TypeMismatch, Misplaced}
use Rattle.cat_names.specs.Found.{faulty}
use Rattle.cat_names.specs.Meaning.{meant}
use Rattle.cat_names.specs.Definitions.{boolean_of, definition_meant, rule_meant}
use Rattle.cat_names.specs.NameFaults.{name_faults}
use Rattle.cat_names.specs.Bodies.{contradictions, outward_function}
use Rattle.cat_names.proofs.TypeEquations.{views}
use Rattle.cat_names.proofs.Equations.{forms}
use Rattle.cat_names.proofs.UnknownEquations.{unknowns}
use Rattle.cat_names.proofs.Samples.{at, name, local, whole, plain, a, b, n, q, s, x, S, T, own, block, definition}
use Rattle.cat_names.proofs.Samples.{item_of}

-- the letter r
abbrev r : ℕ
r = 114

-- a scope with an input n, a called scope s of the scope T, a function f of an integer, and an internal variable x of a
-- structure with a field a; T has an input a, an internal variable b and a called scope r of a scope without items
abbrev items : List ItemDecl
items = item_of n (at 3 9) kind.Input flat_ty.Integer ∷ item_of s (at 4 3) (kind.Called 1) flat_ty.Boolean
    ∷ record {
      name = 102 ∷ [];
      pos = at 5 12;
      kind = kind.Internal;
      ty = flat_ty.Integer;
      condition = false;
      params = flat_ty.Integer ∷ [];
    } ∷ item_of x (at 6 12) kind.Internal (flat_ty.Structure 0) ∷ []

abbrev scopes : List Scope
scopes = record { name = S ∷ []; items = items }
    ∷ record {
      name = T ∷ [];
      items = item_of a (at 8 9) kind.Input flat_ty.Integer
          ∷ item_of b (at 9 12) kind.Internal flat_ty.Integer
          ∷ item_of r (at 10 3) (kind.Called 2) flat_ty.Boolean ∷ [];
    }
    ∷ record { name = 82 ∷ []; items = [] } ∷ []

-- a structure P with a field a
abbrev structures : List Structure
structures = record { name = 80 ∷ []; fields = record { name = a ∷ []; ty = flat_ty.Integer } ∷ [] } ∷ []

-- enumerations E and F, each with a case A
abbrev enumerations : List Enumeration
enumerations = record { name = 69 ∷ []; cases = record { name = 65 ∷ []; content = None } ∷ [] }
    ∷ record { name = 70 ∷ []; cases = record { name = 65 ∷ []; content = None } ∷ [] } ∷ []

abbrev p : Pos
p = at 20 14

-- `date round increasing`, then twice `decreasing`
a_rounding_contradicts_an_earlier_one : contradictions ((at 6 3, true) ∷ (at 7 3, false) ∷ (at 8 3, false) ∷ [])
    ≡ Misplaced (at 7 3) ∷ Misplaced (at 8 3) ∷ []
a_rounding_contradicts_an_earlier_one = search rules

-- `output f content integer depends on ..`
a_function_is_internal : outward_function (record {
  name = 102 ∷ [];
  pos = at 5 10;
  kind = kind.Output;
  ty = flat_ty.Integer;
  condition = false;
  params = flat_ty.Integer ∷ [];
}) ≡ Misplaced (at 5 10) ∷ []
a_function_is_internal = search rules

module _ (sound : IsTrue (are_sound structures enumerations scopes)) where
  abbrev names : Names
  names = record {
    decls = record { structures = structures; enumerations = enumerations; scopes = scopes; sound = sound };
    items = items;
  }

  -- `definition s equals 1`
  a_called_scope_alone_is_misplaced : definition_meant names 0 None plain (at 20 3)
      (record { name = name s p; inner = None; params = [] }) None (whole 1 p) ≡ faulty (Misplaced p)
  a_called_scope_alone_is_misplaced = search (rules, forms, views)

  -- `definition s.b equals 1`, where b is internal, and `definition s.q equals 1`
  an_internal_variable_of_a_called_scope_is_misplaced : definition_meant names 0 None plain (at 20 3)
      (record { name = name s p; inner = Some (name b (at 20 16)); params = [] }) None (whole 1 p) ≡ faulty
      (Misplaced p)
  an_internal_variable_of_a_called_scope_is_misplaced = search (rules, forms, views)

  no_variable_of_a_called_scope_is_unknown : definition_meant names 0 None plain (at 20 3)
      (record { name = name s p; inner = Some (name q (at 20 16)); params = [] }) None (whole 1 p)
      ≡ faulty (NameUnknown (at 20 16))
  no_variable_of_a_called_scope_is_unknown = search (rules, forms, views)

  -- `definition s.r equals 1`, where r is a scope that T calls
  a_scope_that_a_called_scope_calls_is_unknown : definition_meant names 0 None plain (at 20 3)
      (record { name = name s p; inner = Some (name r (at 20 16)); params = [] }) None (whole 1 p)
      ≡ faulty (NameUnknown (at 20 16))
  a_scope_that_a_called_scope_calls_is_unknown = search (rules, forms, views)

  -- `definition x.a equals 1`, where a is a field of x, and `definition x.q equals 1`
  a_field_is_misplaced : definition_meant names 0 None plain (at 20 3)
      (record { name = name x p; inner = Some (name a (at 20 16)); params = [] }) None (whole 1 p) ≡ faulty
      (Misplaced p)
  a_field_is_misplaced = search (rules, forms, views)

  no_field_is_unknown : definition_meant names 0 None plain (at 20 3)
      (record { name = name x p; inner = Some (name q (at 20 16)); params = [] }) None (whole 1 p)
      ≡ faulty (NameUnknown (at 20 16))
  no_field_is_unknown = search (rules, forms, views)

  -- `definition n.a equals 1`, where n is an integer
  no_part_of_an_integer_is_unknown : definition_meant names 0 None plain (at 20 3)
      (record { name = name n p; inner = Some (name a (at 20 16)); params = [] }) None (whole 1 p)
      ≡ faulty (NameUnknown (at 20 16))
  no_part_of_an_integer_is_unknown = search (rules, forms, views)

  -- `definition f equals 1`
  a_function_names_its_parameters : definition_meant names 0 None plain (at 20 3)
      (record { name = name 102 p; inner = None; params = [] }) None (whole 1 p) ≡ faulty (TypeMismatch p)
  a_function_names_its_parameters = search (rules, forms, views)

  -- `rule f of q fulfilled`, where f is no condition
  a_rule_is_for_a_condition : rule_meant names 0 None plain (at 20 3)
      (record { name = name 102 p; inner = None; params = name q (at 20 19) ∷ [] }) None fulfilled.Yes
      ≡ faulty (Misplaced (at 20 3))
  a_rule_is_for_a_condition = search (rules, forms, views)

  -- `rule f of q under condition 1 consequence fulfilled`: the condition is looked at too
  a_rule_on_no_condition_has_a_condition : rule_meant names 0 None plain (at 20 3)
      (record { name = name 102 p; inner = None; params = name q (at 20 19) ∷ [] }) (Some (whole 1 (at 20 37)))
      fulfilled.Yes
      ≡ Err (Misplaced (at 20 3) ∷ TypeMismatch (at 20 37) ∷ [])
  a_rule_on_no_condition_has_a_condition = search (rules, forms, views)

  -- `f of q, 1`: the arguments are looked at too
  arguments_of_another_count : meant names (node.Call (name 102 p) (local q (at 20 19) ∷ whole 1 (at 20 22) ∷ [])) []
      None
      ≡ Err (TypeMismatch p ∷ NameUnknown (at 20 19) ∷ [])
  arguments_of_another_count = search (rules, forms, views)

  -- `(1 + 2)` as a condition: that it is no boolean stands inside
  a_mismatch_stands_in_parentheses : boolean_of names
      (node.Parens p (node.Binary operator.Plus (at 20 17) (whole 1 (at 20 15)) (whole 2 (at 20 19)))) []
      ≡ faulty (TypeMismatch (at 20 17))
  a_mismatch_stands_in_parentheses = search (rules, forms, views)

  -- `A`, which two enumerations declare, and `E.A`
  a_case_of_two_enumerations_is_unknown : meant names (leaf.Case (case.Bare (name 65 p))) [] None ≡ faulty
      (NameUnknown p)
  a_case_of_two_enumerations_is_unknown = search (rules, forms, views)

  a_case_of_no_type_is_unknown_at_the_type :
      meant names (leaf.Case (case.Qualified (name 81 p) (name 65 (at 20 16)))) [] None ≡ faulty (NameUnknown p)
  a_case_of_no_type_is_unknown_at_the_type = search (rules, forms, views)

  -- `E { .. }`
  an_enumeration_is_no_structure : meant names (node.Structure (name 69 p) []) [] None ≡ faulty (TypeMismatch p)
  an_enumeration_is_no_structure = search (rules, forms, views)

-- `declaration structure S: data a content S` and `declaration scope S`
types_and_scopes_share_their_names : name_faults (record {
  items =
      item.Structure (at 2 1) (name S (at 2 23))
      (record { name = name a (at 3 8); ty = record { lists = 0; base = base.Integer; pos = at 3 18 } } ∷ [])
      ∷ item.Scope (at 4 1) (name S (at 4 19)) [] ∷ [];
}) ≡ NameTwice (at 4 19) ∷ []
types_and_scopes_share_their_names = search rules

-- `declaration scope S: internal a content integer`, the same once more with b, and `scope S: definition b equals 1`
a_second_scope_of_a_name_is_the_only_fault : name_faults (record {
  items = item.Scope (at 2 1) (name S (at 2 19))
      (own written.Internal (at 3 3) (name a (at 3 12)) base.Integer (at 3 22) ∷ [])
      ∷ item.Scope (at 4 1) (name S (at 4 19))
      (own written.Internal (at 5 3) (name b (at 5 12)) base.Integer (at 5 22) ∷ [])
      ∷ block (at 6 1) (name S (at 6 7)) (definition (at 7 3) (name b (at 7 14)) (whole 1 (at 7 23)) ∷ []) ∷ [];
}) ≡ NameTwice (at 4 19) ∷ []
a_second_scope_of_a_name_is_the_only_fault = search (rules, unknowns)

-- `data a content list of Q`
abbrev list_of_q : types.Type
list_of_q = record { lists = 1; base = base.Named (81 ∷ []); pos = at 3 26 }

an_unknown_type_stands_at_its_word : name_faults (record {
  items =
      item.Structure (at 2 1) (name S (at 2 23))
      (record { name = name a (at 3 8); ty = list_of_q } ∷ []) ∷ [];
})
    ≡ NameUnknown (at 3 26) ∷ []
an_unknown_type_stands_at_its_word = search rules
