-- What stands against code whose tables are known, by the number of an instruction.
use Rattle.std.specs.Prelude.{◌≡◌, ◌⊎◌, ◌≤◌, ◌<◌, ℕ, false, List, length, Some, slice_get}
use Rattle.cat_scope.specs.Names.{IsOneOf}
use Rattle.cat_code.specs.declared.instr.Instr.{Instr}
use Rattle.cat_code.specs.declared.instr.Instr.TheVariants as instr
use Rattle.cat_code.specs.declared.code.Tables.{Tables}
use Rattle.cat_code.specs.Shapes.{Owner}
use Rattle.cat_code.specs.Places.{FunctionPlace, function_places}
use Rattle.cat_code.specs.Jumps.{jump_of, is_within}
use Rattle.cat_code.specs.Tame.{is_forward}
use Rattle.cat_code.specs.Valid.{keeps_rules, entries_of, places_entered}
use Rattle.cat_verify_shapes.specs.Belonging.{Calls, MayRun, MayComeTo}

-- an instruction names what isn't there, or breaks a rule of listings
pub record NamesWrongly (tables : Tables) (code : List Instr) (k : ℕ) : Type 0 where
  pub instruction : Instr
  pub is : slice_get code k ≡ Some instruction
  pub wrong : (is_within tables (length code) instruction ≡ false)
      ⊎ (keeps_rules tables code (places_entered tables code) k instruction ≡ false)

-- a scope or a function begins behind the last instruction
pub record BeginsOutside (tables : Tables) (code : List Instr) (k : ℕ) : Type 0 where
  pub entry : ℕ
  pub is_entry : IsOneOf entry (entries_of tables)
  pub outside : length code ≤ entry
  pub number : k ≡ length code

-- a function that no item declares begins at an instruction
pub record IsUndeclared (tables : Tables) (code : List Instr) (k : ℕ) : Type 0 where
  pub function : ℕ
  pub inside : k < length code
  pub entry_is : slice_get tables.functions function ≡ Some k
  pub undeclared : length (function_places tables.decls) ≤ function

-- a call of a function of another scope, to which a run may come
pub record CallsAbroad (tables : Tables) (code : List Instr) (k : ℕ) : Type 0 where
  pub caller : Owner
  pub comes : MayComeTo tables code caller k
  pub function : ℕ
  pub count : ℕ
  pub is : slice_get code k ≡ Some (instr.Call function count)
  pub place : FunctionPlace
  pub place_is : slice_get (function_places tables.decls) function ≡ Some place
  pub abroad : place.scope ≡ caller.scope → ⊥

abbrev pub IsBadNumber : Tables → List Instr → ℕ → Type 0
IsBadNumber tables code k =
    NamesWrongly tables code k
    ⊎ (BeginsOutside tables code k ⊎ (IsUndeclared tables code k ⊎ CallsAbroad tables code k))

-- an instruction jumps back, but to the beginning of a turn of a loop
pub record JumpsBack (code : List Instr) (k : ℕ) : Type 0 where
  pub instruction : Instr
  pub is : slice_get code k ≡ Some instruction
  pub back : is_forward code k instruction (jump_of instruction) ≡ false

-- a run may come to an instruction in the code of two owners
pub record IsShared (tables : Tables) (code : List Instr) (k : ℕ) : Type 0 where
  pub inside : k < length code
  pub one : Owner
  pub other : Owner
  pub of_one : MayComeTo tables code one k
  pub of_other : MayComeTo tables code other k
  pub apart : one ≡ other → ⊥

-- a chain of calls leads from one owner to another
pub data LeadOn (tables : Tables) (code : List Instr) : Owner → Owner → Type 0 where
  call : {a b : Owner} (place : ℕ) → Calls tables code place a b → LeadOn tables code a b
  chain : {a b c : Owner} (place : ℕ) → Calls tables code place a b → LeadOn tables code b c → LeadOn tables code a c

-- a call to which a run may come, and from which a chain of calls leads back
pub record CallsItself (tables : Tables) (code : List Instr) (k : ℕ) : Type 0 where
  pub caller : Owner
  pub called : Owner
  pub may_run : MayRun tables code caller
  pub call : Calls tables code k caller called
  pub back : (called ≡ caller) ⊎ LeadOn tables code called caller

abbrev pub IsEndless : Tables → List Instr → ℕ → Type 0
IsEndless tables code k = JumpsBack code k ⊎ (IsShared tables code k ⊎ CallsItself tables code k)
