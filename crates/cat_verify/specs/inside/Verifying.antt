-- Code whose tables are told: why it is refused, and what it is where it isn't.
use Rattle.std.specs.Prelude.{◌≡◌, ◌≤◌, ◌<◌, ◌+◌, ℕ, IsTrue, List, map, length, is_some}
use Rattle.std.specs.List.{list_all}
use Rattle.cat_pos.specs.declared.limits.TheConstants.{ENTRIES_BOUND}
use Rattle.cat_order.specs.Order.{IsOrder}
use Rattle.cat_value.specs.Dependencies.{type_dependencies}
use Rattle.cat_code.specs.declared.instr.Instr.{Instr}
use Rattle.cat_code.specs.declared.code.Tables.{Tables}
use Rattle.cat_code.specs.Places.{case_places, function_places, target_form}
use Rattle.cat_code.specs.Valid.{constant_is_sound, IsValid}
use Rattle.cat_verify_tables.specs.TableWords.{numbered}
use Rattle.cat_verify_tables.specs.declared.places.FunctionPlace.{FunctionPlace}
use Rattle.cat_verify_shapes.specs.Unshaped.{IsUnshaped}
use Rattle.cat_verify.specs.declared.refusal.VerifyRefusal.{VerifyRefusal}
use Rattle.cat_verify.specs.declared.refusal.VerifyRefusal.TheVariants as refusal
use Rattle.cat_verify.specs.WrongCode.{IsBadNumber, IsEndless}

-- tables with their functions and an order of their types, in which nothing is wrong
pub record IsPrepared (tables : Tables) (code : List Instr) (functions : List FunctionPlace) (types : List ℕ) :
    Type 0 where
  pub few : length code < ENTRIES_BOUND
  pub counted : length tables.scopes + length tables.functions < ENTRIES_BOUND
  pub declared : functions ≡ map numbered (function_places tables.decls)
  pub enough : length (function_places tables.decls) ≤ length tables.functions
  pub order : IsOrder (type_dependencies tables.decls.structures tables.decls.enumerations) types
  pub cases : tables.cases ≡ case_places 0 tables.decls.enumerations
  pub scopes : length tables.scopes ≡ length tables.decls.scopes
  pub targets : IsTrue (list_all (λ entry. is_some (target_form tables.decls entry.target)) tables.targets)
  pub constants : IsTrue (list_all (constant_is_sound tables.decls) tables.constants)

-- each instruction names what is there, by the rules of listings
abbrev pub IsRight : Tables → List Instr → Type 0
IsRight tables code = (k : ℕ) → IsBadNumber tables code k → ⊥

-- each run ends
abbrev pub Ends : Tables → List Instr → Type 0
Ends tables code = (k : ℕ) → IsEndless tables code k → ⊥

-- both, and it is valid and tame
pub record IsGood (tables : Tables) (code : List Instr) : Type 0 where
  pub right : IsRight tables code
  pub ends : Ends tables code
  pub valid : IsValid tables code

abbrev pub NumberedCause : Tables → List Instr → VerifyRefusal → Type 0
NumberedCause tables code (refusal.BadNumber k) = IsBadNumber tables code k
NumberedCause tables code (refusal.BadTable n) = ⊥
NumberedCause tables code (refusal.Endless k) = ⊥
NumberedCause tables code (refusal.BadShape k) = ⊥
NumberedCause tables code refusal.Memory = Unit {0}

abbrev pub CodeCause : Tables → List Instr → VerifyRefusal → Type 0
CodeCause tables code (refusal.BadNumber k) = IsBadNumber tables code k
CodeCause tables code (refusal.BadTable n) = ⊥
CodeCause tables code (refusal.Endless k) = IsRight tables code × IsEndless tables code k
CodeCause tables code (refusal.BadShape k) = IsRight tables code × Ends tables code × IsUnshaped tables code k
CodeCause tables code refusal.Memory = Unit {0}
