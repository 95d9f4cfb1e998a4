-- Worked examples of limits: as many as may stand, and one more.
use Rattle.std.proofs.Common.{◌≡◌, ℕ, ◌+◌, [], ◌∷◌, Some, None, slice_get, replicate, sym, ap, arith}
use Rattle.std.proofs.lemmas.List.{length-replicate, get_or-replicate}
use Rattle.std.proofs.lemmas.Option.{slice_get_past, slice_get_read}
use Rattle.cat_pos.specs.declared.pos.Pos.{Pos}
use Rattle.cat_names.specs.declared.fault.Fault.TheVariants.{TooMany}
use Rattle.cat_names.specs.DeclarationFaults.{past, too_many}
use Rattle.cat_names.specs.Limits.{most_items, most_definitions, most_parameters}
use Rattle.cat_value.specs.Declarations.{most_cases}

none_past : (p : Pos) (n : ℕ) → slice_get (replicate n p) n ≡ None
none_past p n = slice_get_past (replicate n p) n (omega (arith, length-replicate n p))

one_past : (p : Pos) (n : ℕ) → slice_get (replicate (n + 1) p) n ≡ Some p
one_past p n = slice_get_read (replicate (n + 1) p) (n + 1) n p (sym (length-replicate (n + 1) p)) (omega arith)
    (sym (get_or-replicate (n + 1) n p p (omega arith)))

as_many_items_as_may_be : (p : Pos) → past most_items (replicate 4096 p) ≡ []
as_many_items_as_may_be p = ap too_many (none_past p 4096)

one_item_too_many : (p : Pos) → past most_items (replicate 4097 p) ≡ TooMany p ∷ []
one_item_too_many p = ap too_many (one_past p 4096)

as_many_definitions_as_may_be : (p : Pos) → past most_definitions (replicate 65536 p) ≡ []
as_many_definitions_as_may_be p = ap too_many (none_past p 65536)

one_definition_too_many : (p : Pos) → past most_definitions (replicate 65537 p) ≡ TooMany p ∷ []
one_definition_too_many p = ap too_many (one_past p 65536)

as_many_cases_as_may_be : (p : Pos) → past most_cases (replicate 128 p) ≡ []
as_many_cases_as_may_be p = ap too_many (none_past p 128)

one_case_too_many : (p : Pos) → past most_cases (replicate 129 p) ≡ TooMany p ∷ []
one_case_too_many p = ap too_many (one_past p 128)

as_many_parameters_as_may_be : (p : Pos) → past most_parameters (replicate 8 p) ≡ []
as_many_parameters_as_may_be p = ap too_many (none_past p 8)

one_parameter_too_many : (p : Pos) → past most_parameters (replicate 9 p) ≡ TooMany p ∷ []
one_parameter_too_many p = ap too_many (one_past p 8)
