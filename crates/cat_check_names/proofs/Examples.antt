-- Tables at worked examples: names are single letters.
use Rattle.std.proofs.Common.{◌≡◌, ℕ, List, [], ◌∷◌, ◌++◌, Some, None, refl}
use Rattle.cat_check_names.specs.Table.{number_in, with_name, number_named}
use Rattle.cat_check_names.specs.CaseTable.{only_of}

-- a, b
abbrev names : List (List ℕ)
names = (97 ∷ []) ∷ (98 ∷ []) ∷ []

-- a name that is there keeps its number
a_name_is_added_once : with_name (with_name [] (97 ∷ []) 0) (97 ∷ []) 1 ≡ (97 ∷ [], 0) ∷ []
a_name_is_added_once = refl

the_second_name_has_number_one : number_in (with_name (with_name [] (97 ∷ []) 0) (98 ∷ []) 1) (98 ∷ []) ≡ Some 1
the_second_name_has_number_one = refl

-- of equal names the first counts
the_first_of_equal_names : number_named (λ name. name) (98 ∷ []) (names ++ names) ≡ Some 1
the_first_of_equal_names = refl

a_name_that_is_not_there : number_named (λ name. name) (99 ∷ []) names ≡ None
a_name_that_is_not_there = refl

-- a case of two enumerations is the only one of none
two_cases_of_a_name : only_of {A = ℕ × ℕ} ((0, 3) ∷ (1, 5) ∷ []) ≡ Some None
two_cases_of_a_name = refl
