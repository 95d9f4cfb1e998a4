-- Where scopes and functions begin with their stamps, and the owners of numbers.
use Rattle.std.proofs.Common.{◌≡◌, ◌<◌, ◌+◌, ◌-◌, ℕ, zero, suc, nat_lt, Bool, true, false, List, [], ◌∷◌}
use Rattle.std.proofs.Common.{length, map, get_or, Option, Some, None, refl, sym, ap, ◌∙◌, inl, inr, arith}
use Rattle.std.proofs.Common.{if◌then◌else◌}
use Rattle.std.proofs.lemmas.Option.{get_or_from_slice_get}
use Rattle.std.proofs.lemmas.Bool.Decides.{nat_tests}
use Rattle.std.specs.Prelude.{slice_get}
use Rattle.cat_scope.specs.Names.{IsOneOf}
use Rattle.cat_code.specs.declared.code.Tables.{Tables}
use Rattle.cat_code.specs.Places as places
use Rattle.cat_code.specs.Places.{function_places}
use Rattle.cat_code.specs.Shapes.{Owner}
use Rattle.cat_verify_tables.specs.TableWords.{numbered}
use Rattle.cat_verify_tables.specs.declared.places.FunctionPlace.{FunctionPlace}
use Rattle.cat_verify_shapes.specs.Belonging.{IsFunctionOf, BeginsAt, Begins, function_owner}
use Rattle.cat_verify_shapes.specs.Owned.{owner_of}
use Rattle.cat_verify.specs.declared.stamps.Arrival.{Arrival}
use Rattle.cat_verify.specs.inside.Spreading.{to_each}
use Rattle.cat_verify.specs.inside.Starts.{arrivals_from, scope_arrivals, scope_starts, function_starts}
use Rattle.cat_verify.specs.inside.Starts.{number_in, number_of}
use Rattle.cat_verify.specs.inside.OwnerNumbers.{owner_at}
use Rattle.cat_verify.proofs.OneOf.{within_of, at_within, at_of_map, map_at}

abbrev pub a_scope : ℕ → Owner
a_scope n = record { scope = n; function = None }

abbrev pub a_function : ℕ → ℕ → Owner
a_function scope f = record { scope = scope; function = Some f }

-- a function begins there, and has that stamp
pub record IsEntry (tables : Tables) (stamp : Owner → ℕ) (f : ℕ) (entry : Arrival) : Type 0 where
  pub place : places.FunctionPlace
  pub place_is : slice_get (function_places tables.decls) f ≡ Some place
  pub begins : slice_get tables.functions f ≡ Some entry.place
  pub stamp_is : stamp (function_owner f place) ≡ entry.stamp

-- the stamps of scopes start at their entries, and those of functions at theirs where these are called
pub record AreStarts (tables : Tables) (stamp : Owner → ℕ) (starts calls : List Arrival) : Type 0 where
  pub scope_of : (p l : ℕ) → IsOneOf (to_each l p) starts
      → (n : ℕ) × (slice_get tables.scopes n ≡ Some p) × (stamp (a_scope n) ≡ l)
  pub of_scope : (n p : ℕ) → slice_get tables.scopes n ≡ Some p → IsOneOf (to_each (stamp (a_scope n)) p) starts
  pub entry_of : (f : ℕ) (entry : Arrival) → slice_get calls f ≡ Some entry → IsEntry tables stamp f entry
  pub of_entry : (f p : ℕ) (place : places.FunctionPlace) → slice_get (function_places tables.decls) f ≡ Some place
      → slice_get tables.functions f ≡ Some p
      → slice_get calls f ≡ Some (to_each (stamp (function_owner f place)) p)

-- ---- entries with numbers

of_arrivals : (n j : ℕ) (ps : List ℕ) (p l : ℕ) → IsOneOf (to_each l p) (arrivals_from n j ps)
    → (k : ℕ) × (l ≡ n + (j + k)) × (slice_get ps k ≡ Some p)
of_arrivals n j [] p l one = absurd one
of_arrivals n j (q ∷ ps) p l (inl same) =
    let stamp : l ≡ n + j = ap (λ (x : Arrival). x.stamp) same in
    (0, omega (arith, stamp), ap (λ (x : Arrival). Some x.place) (sym same))
of_arrivals n j (q ∷ ps) p l (inr more) =
    let rest = of_arrivals n (j + 1) ps p l more in
    let stamp : l ≡ n + (j + 1 + rest.0) = rest.1 in
    (suc rest.0, omega (arith, stamp), rest.2)

in_arrivals : (n j : ℕ) (ps : List ℕ) (k p l : ℕ) → slice_get ps k ≡ Some p → l ≡ n + (j + k)
    → IsOneOf (to_each l p) (arrivals_from n j ps)
in_arrivals n j [] k p l h stamp = absurd (cc h)
in_arrivals n j (q ∷ ps) zero p l h stamp =
    let first : l ≡ n + j = omega (arith, stamp) in
    inl (ap (λ (x : ℕ). to_each x p) first ∙ ap (to_each (n + j)) (same h))
  where
    same : Some q ≡ Some p → p ≡ q
    same e = cc e
in_arrivals n j (q ∷ ps) (suc k) p l h stamp = inr (in_arrivals n (j + 1) ps k p l h (omega (arith, stamp)))

arrival_at : (n j : ℕ) (ps : List ℕ) (k p l : ℕ) → slice_get ps k ≡ Some p → l ≡ n + (j + k)
    → slice_get (arrivals_from n j ps) k ≡ Some (to_each l p)
arrival_at n j [] k p l h stamp = absurd (cc h)
arrival_at n j (q ∷ ps) zero p l h stamp =
    let first : n + j ≡ l = omega (arith, stamp) in
    ap (λ (x : ℕ). Some (to_each x q)) first ∙ ap (λ (x : ℕ). Some (to_each l x)) (same h)
  where
    same : Some q ≡ Some p → q ≡ p
    same e = cc e
arrival_at n j (q ∷ ps) (suc k) p l h stamp = arrival_at n (j + 1) ps k p l h (omega (arith, stamp))

of_arrival_at : (n j : ℕ) (ps : List ℕ) (k : ℕ) (entry : Arrival)
    → slice_get (arrivals_from n j ps) k ≡ Some entry
    → (slice_get ps k ≡ Some entry.place) × (entry.stamp ≡ n + (j + k))
of_arrival_at n j [] k entry h = absurd (cc h)
of_arrival_at n j (q ∷ ps) zero entry h =
    let stamp : n + j ≡ entry.stamp = ap (λ (x : Arrival). x.stamp) (same h) in
    (ap (λ (x : Arrival). Some x.place) (same h), omega (arith, stamp))
  where
    same : Some (to_each (n + j) q) ≡ Some entry → to_each (n + j) q ≡ entry
    same e = cc e
of_arrival_at n j (q ∷ ps) (suc k) entry h =
    let rest = of_arrival_at n (j + 1) ps k entry h in
    let stamp : entry.stamp ≡ n + (j + 1 + k) = rest.1 in
    (rest.0, omega (arith, stamp))

-- ---- entries with scopes

of_scoped_at : (fs : List FunctionPlace) (ps : List ℕ) (k : ℕ) (entry : Arrival)
    → slice_get (scope_arrivals fs ps) k ≡ Some entry
    → (f : FunctionPlace) × (slice_get fs k ≡ Some f) × (slice_get ps k ≡ Some entry.place) × (f.scope ≡ entry.stamp)
of_scoped_at [] ps k entry h = absurd (cc h)
of_scoped_at (f ∷ fs) [] k entry h = absurd (cc h)
of_scoped_at (f ∷ fs) (q ∷ ps) zero entry h =
    (f, refl, ap (λ (x : Arrival). Some x.place) (same h), ap (λ (x : Arrival). x.stamp) (same h))
  where
    same : Some (to_each f.scope q) ≡ Some entry → to_each f.scope q ≡ entry
    same e = cc e
of_scoped_at (f ∷ fs) (q ∷ ps) (suc k) entry h = of_scoped_at fs ps k entry h

scoped_at : (fs : List FunctionPlace) (ps : List ℕ) (k : ℕ) (f : FunctionPlace) (p : ℕ) → slice_get fs k ≡ Some f
    → slice_get ps k ≡ Some p → slice_get (scope_arrivals fs ps) k ≡ Some (to_each f.scope p)
scoped_at [] ps k f p is at = absurd (cc is)
scoped_at (g ∷ fs) [] k f p is at = absurd (cc at)
scoped_at (g ∷ fs) (q ∷ ps) zero f p is at =
    ap (λ (x : FunctionPlace). Some (to_each x.scope q)) (same is) ∙ ap (λ (x : ℕ). Some (to_each f.scope x)) (equal at)
  where
    same : Some g ≡ Some f → g ≡ f
    same e = cc e

    equal : Some q ≡ Some p → q ≡ p
    equal e = cc e
scoped_at (g ∷ fs) (q ∷ ps) (suc k) f p is at = scoped_at fs ps k f p is at

-- ---- owners

module _ (tables : Tables) (functions : List FunctionPlace)
    (declared : functions ≡ map numbered (function_places tables.decls))
    (one_each : length tables.functions ≡ length (function_places tables.decls)) where
  abbrev scopes : ℕ
  scopes = length tables.scopes

  pub declared_at : (f : ℕ) (place : FunctionPlace) → slice_get functions f ≡ Some place
      → (there : places.FunctionPlace) × (slice_get (function_places tables.decls) f ≡ Some there)
      × (place ≡ numbered there)
  declared_at f place is = at_of_map numbered (function_places tables.decls) f place
      (ap (λ (fs : List FunctionPlace). slice_get fs f) (sym declared) ∙ is)

  -- the scope that starts at a place, by its number
  scope_starting : (p l : ℕ) → IsOneOf (to_each l p) (scope_starts tables)
      → (n : ℕ) × (slice_get tables.scopes n ≡ Some p) × (n ≡ l)
  scope_starting p l one =
      let from = of_arrivals 0 0 tables.scopes p l one in
      let stamp : l ≡ 0 + (0 + from.0) = from.1 in
      (from.0, from.2, omega (arith, stamp))

  starting_scope : (n p : ℕ) → slice_get tables.scopes n ≡ Some p → IsOneOf (to_each n p) (scope_starts tables)
  starting_scope n p is = in_arrivals 0 0 tables.scopes n p n is (omega arith)

  pub place_at : (scope f : ℕ) → IsFunctionOf tables.decls scope f
      → (place : FunctionPlace) × (slice_get functions f ≡ Some place) × (place.scope ≡ scope)
  place_at scope f is = (
    numbered is.place,
    ap (λ (fs : List FunctionPlace). slice_get fs f) declared
        ∙ map_at numbered (function_places tables.decls) f is.place is.place_is,
    is.scope_is,
  )

  -- each function that has an entry has a scope
  pub declared_by : (f p : ℕ) → slice_get tables.functions f ≡ Some p
      → (scope : ℕ) × IsFunctionOf tables.decls scope f
  declared_by f p is =
      let within : f < length tables.functions = within_of tables.functions f p is in
      let from = at_within (function_places tables.decls) f (omega (arith, within, one_each)) in
      (from.0.scope, record { place = from.0; place_is = from.1; scope_is = refl })

  pub starts_scoped : AreStarts tables (λ o. o.scope) (scope_starts tables) (scope_arrivals functions tables.functions)
  starts_scoped = record {
    scope_of = scope_starting;
    of_scope = starting_scope;
    entry_of = λ f entry is.
        let from = of_scoped_at functions tables.functions f entry is in
        let there = declared_at f from.0 from.1 in
        record {
          place = there.0;
          place_is = there.1;
          begins = from.2;
          stamp_is = ap (λ (x : FunctionPlace). x.scope) (sym there.2) ∙ from.3;
        };
    of_entry = λ f p place is at.
        scoped_at functions tables.functions f (numbered place) p
        (ap (λ (fs : List FunctionPlace). slice_get fs f) declared
        ∙ map_at numbered (function_places tables.decls) f place is) at;
  }

  pub starts_numbered : AreStarts tables (number_of tables) (scope_starts tables) (function_starts tables)
  starts_numbered = record {
    scope_of = scope_starting;
    of_scope = starting_scope;
    entry_of = λ f entry is.
        let from = of_arrival_at scopes 0 tables.functions f entry is in
        let stamp : entry.stamp ≡ scopes + (0 + f) = from.1 in
        let within : f < length tables.functions = within_of tables.functions f entry.place from.0 in
        let there = at_within (function_places tables.decls) f (omega (arith, within, one_each)) in
        record { place = there.0; place_is = there.1; begins = from.0; stamp_is = omega (arith, stamp) };
    of_entry = λ f p place is at. arrival_at scopes 0 tables.functions f p (scopes + f) at (omega arith);
  }

  -- ---- the owner of a number

  abbrev pub owner_here : ℕ → Owner
  owner_here n = owner_of (owner_at scopes functions n)

  pub scope_here : (n : ℕ) → n < scopes → owner_here n ≡ a_scope n
  scope_here n within = by (nat_lt n scopes) (grind (arith, nat_tests, within))
    where
      by : (b : Bool) → b ≡ true → owner_of (if b then record { scope = n; function = None } else record {
        scope = (get_or functions (n - scopes) (record { scope = 0; item = 0 })).scope;
        function = Some (n - scopes);
      }) ≡ a_scope n
      by true e = refl
      by false e = absurd (cc e)

  behind : (n : ℕ) → nat_lt n scopes ≡ false → owner_here n
      ≡ a_function (get_or functions (n - scopes) (record { scope = 0; item = 0 })).scope (n - scopes)
  behind n e = by (nat_lt n scopes) e
    where
      by : (b : Bool) → b ≡ false → owner_of (if b then record { scope = n; function = None } else record {
        scope = (get_or functions (n - scopes) (record { scope = 0; item = 0 })).scope;
        function = Some (n - scopes);
      }) ≡ a_function (get_or functions (n - scopes) (record { scope = 0; item = 0 })).scope (n - scopes)
      by true e = absurd (cc e)
      by false e = refl

  pub function_here : (scope f : ℕ) → IsFunctionOf tables.decls scope f → owner_here (scopes + f) ≡ a_function scope f
  function_here scope f is =
      let from = place_at scope f is in
      let at : scopes + f - scopes ≡ f = omega arith in
      behind (scopes + f) (grind (arith, nat_tests))
      ∙ ap (λ (k : ℕ). a_function (get_or functions k (record { scope = 0; item = 0 })).scope k) at
      ∙ ap (λ (place : FunctionPlace). a_function place.scope f)
      (get_or_from_slice_get functions f from.0 (record { scope = 0; item = 0 }) from.1)
      ∙ ap (λ (s : ℕ). a_function s f) from.2

  here_at : (scope : ℕ) (function : Option ℕ) (p : ℕ) → BeginsAt tables scope function p
      → owner_here (number_in scopes scope function) ≡ record { scope = scope; function = function }
  here_at n None p is = scope_here n (within_of tables.scopes n p is)
  here_at n (Some f) p is = function_here n f is.0

  pub owner_back : (o : Owner) (p : ℕ) → Begins tables o p → owner_here (number_of tables o) ≡ o
  owner_back o p is = here_at o.scope o.function p is

  count_at : (scope : ℕ) (function : Option ℕ) (p : ℕ) → BeginsAt tables scope function p
      → number_in scopes scope function < scopes + length tables.functions
  count_at n None p is = let within : n < scopes = within_of tables.scopes n p is in omega (arith, within)
  count_at n (Some f) p is =
      let within : f < length tables.functions = within_of tables.functions f p is.1 in omega (arith, within)

  pub number_within : (o : Owner) (p : ℕ) → Begins tables o p → number_of tables o < scopes + length tables.functions
  number_within o p is = count_at o.scope o.function p is

  -- each number is that of an owner
  pub owner_there : (n : ℕ) → n < scopes + length tables.functions
      → (o : Owner) × (p : ℕ) × Begins tables o p × (number_of tables o ≡ n)
  owner_there n within = by (nat_lt n scopes) refl
    where
      by : (b : Bool) → nat_lt n scopes ≡ b → (o : Owner) × (p : ℕ) × Begins tables o p × (number_of tables o ≡ n)
      by true e = let entry = at_within tables.scopes n (grind (arith, nat_tests, e)) in
          (a_scope n, entry.0, entry.1, refl)
      by false e =
          let entry = at_within tables.functions (n - scopes) (grind (arith, nat_tests, e, within)) in
          let from = declared_by (n - scopes) entry.0 entry.1 in
          (a_function from.0 (n - scopes), entry.0, (from.1, entry.1), grind (arith, nat_tests, e))
