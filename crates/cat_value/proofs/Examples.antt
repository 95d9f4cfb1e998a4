-- Worked examples: a structure `pair` of an integer and a list of booleans, and an enumeration whose first case holds
-- a list of integers and whose second holds nothing.
use Rattle.std.proofs.Common.{◌≡◌, ℕ, zero, suc, ◌+◌, true, false, pos, negsuc, IsTrue, List, [], ◌∷◌, None, Some}
use Rattle.std.proofs.Common.{rules, arith, refl, ap, ◌∙◌}
use Rattle.cat_num.specs.Frac.{gcd}
use Rattle.cat_value.specs.declared.ty.Ty.TheVariants as flat_ty
use Rattle.cat_value.specs.declared.ty.Ty.TheViews as ty
use Rattle.cat_value.specs.declared.value.Value.TheVariants as flat
use Rattle.cat_value.specs.declared.value.Value.TheViews as value
use Rattle.cat_value.specs.declared.declaration.Structure.{Structure}
use Rattle.cat_value.specs.declared.declaration.Enumeration.{Enumeration}
use Rattle.cat_value.specs.declared.decls.Decls.{Decls}
use Rattle.cat_value.specs.Heights.{height_to}
use Rattle.cat_value.specs.Declarations.{are_sound, highest}
use Rattle.cat_order.specs.Order.{is_ready}
use Rattle.cat_order.specs.Computed.{order_of}
use Rattle.cat_order.specs.Cycle.{IsOnCycle}
use Rattle.cat_value.specs.Dependencies.{type_dependencies, are_ordered}
use Rattle.cat_value.specs.Typing.{has_type}
use Rattle.cat_value.specs.Defaults.{default_of}
use Rattle.cat_value.proofs.Equations.{declared, typing}
use Rattle.cat_value.proofs.DependencyEquations.{naming}
use Rattle.cat_value.proofs.DefaultEquations.{default_Enumeration_Some, default_List}
use Rattle.cat_value.proofs.Descending.{height_List, height_Structure, height_Enumeration, height_Boolean}
use Rattle.cat_value.proofs.Descending.{height_Integer}

abbrev pub pair : List ℕ → List ℕ → List ℕ → List Structure
pair s a b = record {
  name = s;
  fields = record { name = a; ty = flat_ty.Integer } ∷
      record { name = b; ty = ty.List flat_ty.Boolean } ∷ [];
} ∷ []

abbrev pub choice : List ℕ → List ℕ → List ℕ → List Enumeration
choice e a b = record {
  name = e;
  cases = record { name = a; content = Some (ty.List flat_ty.Integer) } ∷
      record { name = b; content = None } ∷ [];
} ∷ []

pair_height : (s a b e c d : List ℕ) → height_to (pair s a b) (choice e c d) highest (flat_ty.Structure 0) ≡ 3
pair_height s a b e c d =
    omega (
      arith,
      height_Structure (pair s a b) (choice e c d) 63 0 _ refl,
      height_Integer (pair s a b) (choice e c d)
          62,
      height_List (pair s a b) (choice e c d) 62 flat_ty.Boolean,
      height_Boolean (pair s a b) (choice e c d) 61,
    )

choice_height : (s a b e c d : List ℕ) → height_to (pair s a b) (choice e c d) highest (flat_ty.Enumeration 0) ≡ 3
choice_height s a b e c d =
    omega (
      arith,
      height_Enumeration (pair s a b) (choice e c d) 63 0 _ refl,
      height_List (pair s a b) (choice e c d) 62
          flat_ty.Integer,
      height_Integer (pair s a b) (choice e c d) 61,
    )

pair_and_choice_ordered : (s a b e c d : List ℕ) → are_ordered (pair s a b) (choice e c d) ≡ true
unfolding are_ordered order_of is_ready
pair_and_choice_ordered s a b e c d = search (rules, naming)

pub pair_and_choice_are_sound : (s a b e c d : List ℕ) → IsTrue (are_sound (pair s a b) (choice e c d) [])
unfolding are_sound
pair_and_choice_are_sound s a b e c d = search (rules, declared, pair_height, choice_height, pair_and_choice_ordered)

abbrev pub sample : Decls
sample = record {
  structures = pair [] [] [];
  enumerations = choice [] [] [];
  scopes = [];
  sound =
      pair_and_choice_are_sound [] [] [] [] [] [];
}

abbrev itself : List Structure
itself = record { name = []; fields = record { name = []; ty = flat_ty.Structure 0 } ∷ [] } ∷ []

an_item_inside_itself_is_on_a_cycle : IsOnCycle (type_dependencies itself []) 0
unfolding IsOnCycle
an_item_inside_itself_is_on_a_cycle = ([], search (rules, naming))

-- a structure of a list of an enumeration whose case holds the structure
abbrev each_other : List Structure
each_other = record { name = []; fields = record { name = []; ty = ty.List (flat_ty.Enumeration 0) } ∷ [] } ∷ []

abbrev holding_it : List Enumeration
holding_it = record { name = []; cases = record { name = []; content = Some (flat_ty.Structure 0) } ∷ [] } ∷ []

enumerations_are_numbered_behind_structures : type_dependencies each_other holding_it ≡ (1 ∷ []) ∷ (0 ∷ []) ∷ []
enumerations_are_numbered_behind_structures = search (rules, naming)

two_inside_each_other_have_no_order : are_ordered each_other holding_it ≡ false
unfolding are_ordered order_of is_ready
two_inside_each_other_have_no_order = search (rules, naming)

a_structure_of_numbers_has_an_order : are_ordered (pair [] [] []) [] ≡ true
unfolding are_ordered order_of is_ready
a_structure_of_numbers_has_an_order = search (rules, naming)

height_none : height_to itself [] 0 (flat_ty.Structure 0) ≡ 1
unfolding height_to
height_none = refl

a_type_inside_itself_passes_each_height : (k : ℕ) → height_to itself [] k (flat_ty.Structure 0) ≡ k + 1
a_type_inside_itself_passes_each_height zero = height_none
a_type_inside_itself_passes_each_height (suc k) =
    omega (arith, height_Structure itself [] k 0 _ refl, a_type_inside_itself_passes_each_height k)

the_least_i64_is_no_integer : has_type sample (flat.Integer (negsuc 9223372036854775807)) flat_ty.Integer ≡ false
the_least_i64_is_no_integer = search (rules, typing, ty.the_lemmas)

a_half_is_a_decimal : has_type sample (flat.Decimal (record { num = pos 1; den = 2 })) flat_ty.Decimal ≡ true
unfolding gcd
a_half_is_a_decimal = search (rules, typing, ty.the_lemmas)

two_quarters_are_no_decimal : has_type sample (flat.Decimal (record { num = pos 2; den = 4 })) flat_ty.Decimal ≡ false
unfolding gcd
two_quarters_are_no_decimal = search (rules, typing, ty.the_lemmas)

the_day_before_the_first_is_no_date : has_type sample (flat.Date (negsuc 719162)) flat_ty.Date ≡ false
the_day_before_the_first_is_no_date = search (rules, typing, ty.the_lemmas)

a_boolean_among_integers_is_no_list : has_type sample (value.List (flat.Integer (pos 1) ∷ flat.Boolean true ∷ []))
    (ty.List flat_ty.Integer) ≡ false
a_boolean_among_integers_is_no_list = search (rules, declared, typing, ty.the_lemmas)

an_empty_list_of_an_unknown_type_is_none : has_type sample (value.List []) (ty.List (flat_ty.Structure 1)) ≡ false
an_empty_list_of_an_unknown_type_is_none = search (rules, declared, typing, ty.the_lemmas)

a_field_too_few_is_no_structure : has_type sample (value.Structure (flat.Integer (pos 1) ∷ [])) (flat_ty.Structure 0)
    ≡ false
a_field_too_few_is_no_structure = search (rules, declared, typing, ty.the_lemmas)

a_content_too_many_is_no_case : has_type sample (value.Case 1 (Some (value.List []))) (flat_ty.Enumeration 0) ≡ false
a_content_too_many_is_no_case = search (rules, declared, typing, ty.the_lemmas)

one_past_the_last_case_is_none : has_type sample (value.Case 2 None) (flat_ty.Enumeration 0) ≡ false
one_past_the_last_case_is_none = search (rules, declared, typing, ty.the_lemmas)

the_default_is_the_first_case : default_of sample (flat_ty.Enumeration 0) ≡ value.Case 0 (Some (value.List []))
the_default_is_the_first_case =
    default_Enumeration_Some sample 64 0 _ _ (ty.List flat_ty.Integer) (omega arith) refl refl refl
    ∙ ap (λ content. value.Case 0 (Some content)) (default_List sample 63 flat_ty.Integer (omega arith))
