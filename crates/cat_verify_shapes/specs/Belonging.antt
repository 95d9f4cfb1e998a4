-- To which scope or function instructions belong: those reached from its entry without calls.
use Rattle.std.specs.Prelude.{◌≡◌, ℕ, ◌+◌, Bool, true, false, List, [], ◌∷◌, ◌++◌, Option, Some, None, slice_get}
use Rattle.std.specs.Prelude.{if◌then◌else◌, option_map}
use Rattle.cat_value.specs.declared.decls.Decls.{Decls}
use Rattle.cat_scope.specs.Names.{IsOneOf}
use Rattle.cat_code.specs.declared.instr.Instr.{Instr}
use Rattle.cat_code.specs.declared.instr.Instr.TheVariants as instr
use Rattle.cat_code.specs.declared.code.Tables.{Tables}
use Rattle.cat_code.specs.Places.{FunctionPlace, function_places}
use Rattle.cat_code.specs.Shapes.{Owner}
use Rattle.cat_code.specs.Jumps.{jump_of, with_jump, called_by}

-- a scope declares a function
pub record IsFunctionOf (ds : Decls) (scope f : ℕ) : Type 0 where
  pub place : FunctionPlace
  pub place_is : slice_get (function_places ds) f ≡ Some place
  pub scope_is : place.scope ≡ scope

-- where a scope begins, or a function of that scope
abbrev pub BeginsAt : Tables → ℕ → Option ℕ → ℕ → Type 0
BeginsAt tables scope None p = slice_get tables.scopes scope ≡ Some p
BeginsAt tables scope (Some f) p = IsFunctionOf tables.decls scope f × (slice_get tables.functions f ≡ Some p)

-- where an owner begins
abbrev pub Begins : Tables → Owner → ℕ → Type 0
Begins tables owner p = BeginsAt tables owner.scope owner.function p

-- whether a run goes on behind an instruction
abbrev pub goes_on : Instr → Bool
goes_on (instr.Jump t) = false
goes_on instr.Return = false
goes_on (instr.NoValue v) = false
goes_on _ = true

-- the places to which an instruction at place p leads without a call
abbrev pub leads_on : Instr → ℕ → List ℕ
leads_on i p = (if goes_on i then (p + 1) ∷ [] else []) ++ with_jump (jump_of i) []

-- a place belongs to an owner
pub data Belongs (tables : Tables) (code : List Instr) (owner : Owner) : ℕ → Type 0 where
  begins : {p : ℕ} → Begins tables owner p → Belongs tables code owner p
  follows : {p q : ℕ} (i : Instr) → Belongs tables code owner p → slice_get code p ≡ Some i
      → IsOneOf q (leads_on i p) → Belongs tables code owner q

-- an instruction of one owner calls another one
pub record Calls (tables : Tables) (code : List Instr) (place : ℕ) (caller called : Owner) : Type 0 where
  pub belongs : Belongs tables code caller place
  pub instruction : Instr
  pub instruction_is : slice_get code place ≡ Some instruction
  pub calls : called_by caller instruction ≡ Some called

-- a function that is declared there, as an owner
abbrev pub function_owner : ℕ → FunctionPlace → Owner
function_owner f place = record { scope = place.scope; function = Some f }

-- the function or scope that an instruction calls, whichever code it belongs to
abbrev pub called_in : Tables → Instr → Option Owner
called_in tables (instr.Call f n) = option_map (function_owner f) (slice_get (function_places tables.decls) f)
called_in tables (instr.Scope n) = Some (record { scope = n; function = None })
called_in tables _ = None

-- an owner to whose code a run may come: a scope, or what the code of one of these calls
pub data MayRun (tables : Tables) (code : List Instr) : Owner → Type 0 where
  scope : {n entry : ℕ} → slice_get tables.scopes n ≡ Some entry
      → MayRun tables code (record { scope = n; function = None })
  called : {a b : Owner} {place : ℕ} (i : Instr) → MayRun tables code a → Belongs tables code a place
      → slice_get code place ≡ Some i → called_in tables i ≡ Some b → MayRun tables code b

-- a run may come to a place in the code of an owner
pub record MayComeTo (tables : Tables) (code : List Instr) (owner : Owner) (place : ℕ) : Type 0 where
  pub may_run : MayRun tables code owner
  pub belongs : Belongs tables code owner place
