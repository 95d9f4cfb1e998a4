-- Declarations, a value and an input that meet what reading back asks for, and declarations that do not.
use Rattle.std.proofs.Common.{◌≡◌, ℕ, ◌≤◌, pos, false, IsTrue, List, [], ◌∷◌, codes, None, Some, rules}
use Rattle.std.proofs.Common.{arith, refl}
use Rattle.cat_pos.specs.Position.{pos_of}
use Rattle.cat_pos.specs.declared.pos.Pos.{Pos}
use Rattle.cat_order.specs.Computed.{order_of}
use Rattle.cat_value.specs.declared.ty.Ty.TheVariants as flat_ty
use Rattle.cat_value.specs.declared.ty.Ty.TheViews as ty
use Rattle.cat_value.specs.declared.value.Value.TheVariants as flat
use Rattle.cat_value.specs.declared.value.Value.TheViews as value
use Rattle.cat_value.specs.declared.declaration.Kind.TheVariants.{Input, Context}
use Rattle.cat_value.specs.declared.declaration.Scope.{Scope}
use Rattle.cat_value.specs.declared.decls.Decls.{Decls}
use Rattle.cat_value.specs.Declarations.{are_sound, highest}
use Rattle.cat_value.specs.Dependencies.{are_ordered}
use Rattle.cat_value.specs.Inputs.{is_input_of, IsWellTyped}
use Rattle.cat_value.specs.Laws.{height_of}
use Rattle.cat_value.specs.Typing.{has_type}
use Rattle.cat_value.proofs.Exported.{pair, choice, pair_and_choice_are_sound, enumeration_low, declared, typing}
use Rattle.cat_value.proofs.Exported.{height_Integer}
use Rattle.cat_json.specs.Names.{names_are_distinct}

abbrev types : List ℕ → List ℕ → Decls
types a b = record {
  structures = pair (codes "Pair") a b;
  enumerations = choice (codes "Choice") a b;
  scopes = [];
  sound = pair_and_choice_are_sound (codes "Pair") a b (codes "Choice") a b;
}

abbrev plain : Decls
plain = types (codes "a") (codes "b")

names_may_be_distinct : IsTrue (names_are_distinct plain)
unfolding names_are_distinct
names_may_be_distinct = refl

fields_and_cases_of_one_name_are_not : names_are_distinct (types (codes "a") (codes "a")) ≡ false
unfolding names_are_distinct
fields_and_cases_of_one_name_are_not = refl

a_case_is_a_value : IsTrue (has_type plain (value.Case 1 None) (flat_ty.Enumeration 0))
a_case_is_a_value = search (rules, typing)

a_type_is_low : height_of plain (flat_ty.Enumeration 0) ≤ highest
a_type_is_low = enumeration_low plain 0 (omega arith)

abbrev here : Pos
here = pos_of 0 1 1

-- a scope of an integer that must be given and one that may be
abbrev scopes : List ℕ → List Scope
scopes m = record {
  name = codes "S";
  items = record { name = codes "n"; pos = here; kind = Input; ty = flat_ty.Integer; condition = false; params = [] }
      ∷ record { name = m; pos = here; kind = Context; ty = flat_ty.Integer; condition = false; params = [] } ∷ [];
} ∷ []

scopes_are_sound : (m : List ℕ) → IsTrue (are_sound [] [] (scopes m))
unfolding are_sound are_ordered order_of
scopes_are_sound m = search (rules, declared, height_Integer)

abbrev scoped : List ℕ → Decls
scoped m = record { structures = []; enumerations = []; scopes = scopes m; sound = scopes_are_sound m }

inputs_may_be_distinct : IsTrue (names_are_distinct (scoped (codes "m")))
unfolding names_are_distinct
inputs_may_be_distinct = refl

inputs_of_one_name_are_not : names_are_distinct (scoped (codes "n")) ≡ false
unfolding names_are_distinct
inputs_of_one_name_are_not = refl

an_input_is_well_typed : IsWellTyped (scoped (codes "m")) 0 (Some (flat.Integer (pos 7)) ∷ None ∷ [])
unfolding is_input_of
an_input_is_well_typed = search (rules, typing, ty.the_lemmas)
