-- Where scopes and functions begin with their stamps, and the numbers of owners: scopes stand in front of functions.
use Rattle.std.specs.Prelude.{ℕ, ◌+◌, List, [], ◌∷◌, length, Option, Some, None}
use Rattle.cat_code.specs.declared.code.Tables.{Tables}
use Rattle.cat_code.specs.Shapes.{Owner}
use Rattle.cat_verify_tables.specs.declared.places.FunctionPlace.{FunctionPlace}
use Rattle.cat_verify.specs.declared.stamps.Arrival.{Arrival}

-- entries from number k on, with their numbers behind so many others
abbrev pub arrivals_from : ℕ → ℕ → List ℕ → List Arrival
arrivals_from first k [] = []
arrivals_from first k (p ∷ ps) = record { place = p; stamp = first + k } ∷ arrivals_from first (k + 1) ps

-- the entries of functions with the numbers of their scopes
abbrev pub scope_arrivals : List FunctionPlace → List ℕ → List Arrival
scope_arrivals [] ps = []
scope_arrivals (f ∷ fs) [] = []
scope_arrivals (f ∷ fs) (p ∷ ps) = record { place = p; stamp = f.scope } ∷ scope_arrivals fs ps

-- each scope's entry with its number
abbrev pub scope_starts : Tables → List Arrival
scope_starts tables = arrivals_from 0 0 tables.scopes

-- each function's entry with its number, behind those of scopes
abbrev pub function_starts : Tables → List Arrival
function_starts tables = arrivals_from (length tables.scopes) 0 tables.functions

-- the number of an owner, behind so many scopes
abbrev pub number_in : ℕ → ℕ → Option ℕ → ℕ
number_in scopes scope None = scope
number_in scopes scope (Some f) = scopes + f

abbrev pub number_of : Tables → Owner → ℕ
number_of tables owner = number_in (length tables.scopes) owner.scope owner.function
