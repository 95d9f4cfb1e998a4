-- What is known of code whose owners are looked for, and why it is refused for them.
use Rattle.std.specs.Prelude.{◌≡◌, ◌⊎◌, ◌<◌, ◌+◌, ℕ, List, map, length, Some, slice_get}
use Rattle.cat_pos.specs.declared.limits.TheConstants.{ENTRIES_BOUND}
use Rattle.cat_code.specs.declared.instr.Instr.{Instr}
use Rattle.cat_code.specs.declared.instr.Instr.TheVariants as instr
use Rattle.cat_code.specs.declared.code.Tables.{Tables}
use Rattle.cat_code.specs.Places.{function_places}
use Rattle.cat_code.specs.Shapes.{Owner}
use Rattle.cat_verify_tables.specs.TableWords.{numbered}
use Rattle.cat_verify_tables.specs.declared.places.FunctionPlace.{FunctionPlace}
use Rattle.cat_verify_shapes.specs.Belonging.{IsFunctionOf, MayComeTo}
use Rattle.cat_verify.specs.declared.refusal.VerifyRefusal.{VerifyRefusal}
use Rattle.cat_verify.specs.declared.refusal.VerifyRefusal.TheVariants as refusal
use Rattle.cat_verify.specs.WrongCode.{BeginsOutside, IsUndeclared, CallsAbroad, IsShared, CallsItself}
use Rattle.cat_verify.specs.inside.GoodNumbers.{HasGoodNumbers}

-- its numbers are good, and its functions are those that items declare
pub record IsOrderly (tables : Tables) (code : List Instr) (functions : List FunctionPlace) : Type 0 where
  pub few : length code < ENTRIES_BOUND
  pub counted : length tables.scopes + length tables.functions < ENTRIES_BOUND
  pub declared : functions ≡ map numbered (function_places tables.decls)
  pub one_each : length tables.functions ≡ length (function_places tables.decls)
  pub good : HasGoodNumbers tables code

-- each function that is called where a run may come is one of the caller's scope
abbrev pub AreCallsHome : Tables → List Instr → Type 0
AreCallsHome tables code = (p f count : ℕ) (owner : Owner) → MayComeTo tables code owner p
    → slice_get code p ≡ Some (instr.Call f count) → IsFunctionOf tables.decls owner.scope f

-- a function that no item declares begins at an instruction or behind them
abbrev pub SurplusCause : Tables → List Instr → VerifyRefusal → Type 0
SurplusCause tables code (refusal.BadNumber k) = IsUndeclared tables code k ⊎ BeginsOutside tables code k
SurplusCause tables code _ = ⊥

-- one is of another scope
abbrev pub AbroadCause : Tables → List Instr → VerifyRefusal → Type 0
AbroadCause tables code (refusal.BadNumber k) = CallsAbroad tables code k
AbroadCause tables code (refusal.BadTable n) = ⊥
AbroadCause tables code (refusal.Endless k) = ⊥
AbroadCause tables code (refusal.BadShape k) = ⊥
AbroadCause tables code refusal.Memory = Unit {0}

-- an instruction belongs to two owners, or calls go round
abbrev pub OwnersCause : Tables → List Instr → VerifyRefusal → Type 0
OwnersCause tables code (refusal.Endless k) = IsShared tables code k ⊎ CallsItself tables code k
OwnersCause tables code (refusal.BadTable n) = ⊥
OwnersCause tables code (refusal.BadNumber k) = ⊥
OwnersCause tables code (refusal.BadShape k) = ⊥
OwnersCause tables code refusal.Memory = Unit {0}

-- no instruction belongs to two owners, and no calls go round
abbrev pub AreApart : Tables → List Instr → Type 0
AreApart tables code = (k : ℕ) → IsShared tables code k ⊎ CallsItself tables code k → ⊥
