-- Steps of loops over entries and calls.
use Rattle.std.proofs.Common.{◌≡◌, ◌<◌, ◌+◌, ℕ, true, List, [], ◌∷◌, ◌++◌, length, drop}
use Rattle.std.proofs.Common.{get_or, sym, ap, ◌∙◌, subst, arith}
use Rattle.std.proofs.lemmas.List.{drop_more, append_assoc}
use Rattle.cat_code.specs.declared.instr.Instr.{Instr}
use Rattle.cat_code.specs.declared.code.Tables.{Tables}
use Rattle.cat_code.specs.Jumps.{is_within}
use Rattle.cat_verify_tables.specs.declared.places.FunctionPlace.{FunctionPlace}
use Rattle.cat_verify.specs.declared.stamps.Arrival.{Arrival}
use Rattle.cat_verify.specs.inside.GoodNumbers.{HasGoodNumbers}
use Rattle.cat_verify.specs.inside.Spreading.{to_each}
use Rattle.cat_verify.specs.inside.Starts.{scope_arrivals}
use Rattle.cat_verify.proofs.CallLemmas.{within_at}

-- ---- entries of functions

pub scoped_more : (arrivals on all : List Arrival) (functions : List FunctionPlace) (entries : List ℕ) (at : ℕ)
    (d : FunctionPlace) (e : ℕ) → length functions ≡ length entries → at < length entries
    → on ≡ arrivals ++ to_each (get_or functions at d).scope (get_or entries at e) ∷ []
    → arrivals ++ scope_arrivals (drop at functions) (drop at entries) ≡ all
    → on ++ scope_arrivals (drop (at + 1) functions) (drop (at + 1) entries) ≡ all
scoped_more arrivals on all functions entries at d e same within pushed is =
    let rest = scope_arrivals (drop (at + 1) functions) (drop (at + 1) entries) in
    let here : Arrival = to_each (get_or functions at d).scope (get_or entries at e) in
    ap (λ (xs : List Arrival). xs ++ rest) pushed ∙ append_assoc arrivals (here ∷ []) rest
    ∙ ap (λ (xs : List Arrival). arrivals ++ xs)
    (sym (ap (λ (fs : List FunctionPlace). scope_arrivals fs (drop at entries))
    (drop_more functions at d (omega (arith, within, same)))
    ∙ ap (scope_arrivals (get_or functions at d ∷ drop (at + 1) functions)) (drop_more entries at e within)))
    ∙ is

-- ---- instructions that call

pub within_as : (tables : Tables) (code : List Instr) (count at : ℕ) (d : Instr) → HasGoodNumbers tables code
    → count ≡ length code → at < length code → is_within tables count (get_or code at d) ≡ true
within_as tables code count at d good same within =
    subst (λ (n : ℕ). is_within tables n (get_or code at d) ≡ true) (sym same) (within_at tables code at d good within)
