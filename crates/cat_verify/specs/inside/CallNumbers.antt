-- Calls by the numbers of callers and of what they call: functions are numbered behind scopes.
use Rattle.std.specs.Prelude.{◌≡◌, ◌<◌, ℕ, ◌+◌, nat_eq, ◌&&◌, Bool, false, List, [], ◌∷◌, length, Option, Some, None}
use Rattle.std.specs.Prelude.{slice_get, slice_index_or}
use Rattle.cat_pos.specs.declared.limits.TheConstants.{ENTRIES_BOUND}
use Rattle.cat_order.specs.Order.{IsOrder}
use Rattle.cat_code.specs.declared.instr.Instr.{Instr}
use Rattle.cat_code.specs.declared.instr.Instr.TheVariants as instr
use Rattle.cat_code.specs.declared.code.Tables.{Tables}
use Rattle.cat_depend.specs.CycleWays.{IsNextOnCycle}
use Rattle.cat_verify.specs.declared.buckets.Member.{Member}
use Rattle.cat_verify.specs.declared.stamps.Stamps.{Stamps}
use Rattle.cat_verify.specs.declared.stamps.Stamps.TheVariants.{Nobody, One, Two}
use Rattle.cat_verify.specs.declared.refusal.VerifyRefusal.{VerifyRefusal}
use Rattle.cat_verify.specs.declared.refusal.VerifyRefusal.TheVariants as refusal
use Rattle.cat_verify.specs.inside.GoodNumbers.{HasGoodNumbers}
use Rattle.cat_verify.specs.inside.Buckets.{AreBuckets, with_member}

-- how many scopes and functions there are
abbrev pub owner_count : Tables → ℕ
owner_count tables = length tables.scopes + length tables.functions

-- code whose numbers are good, and for each instruction the number of one of so many owners
pub record AreMarked (tables : Tables) (code : List Instr) (marks : List Stamps) : Type 0 where
  pub few : length code < ENTRIES_BOUND
  pub counted : owner_count tables < ENTRIES_BOUND
  pub good : HasGoodNumbers tables code
  pub one_each : length marks ≡ length code
  pub numbers : (p a : ℕ) → slice_get marks p ≡ Some (One a) → a < owner_count tables

-- the number of what an instruction calls, behind so many scopes
abbrev pub called_number : ℕ → Instr → Option ℕ
called_number scopes (instr.Scope n) = Some n
called_number scopes (instr.Call f n) = Some (scopes + f)
called_number scopes _ = None

-- a caller among those of what it calls
abbrev pub with_caller : ℕ → Option ℕ → Option Member
with_caller a None = None
with_caller a (Some b) = Some (record { bucket = b; number = a })

-- a call of an instruction that belongs to one owner
abbrev pub call_number : ℕ → Stamps → Instr → Option Member
call_number scopes (One a) i = with_caller a (called_number scopes i)
call_number scopes Nobody i = None
call_number scopes (Two a b) i = None

-- whether it is that of one by another
abbrev pub is_call : Option Member → ℕ → ℕ → Bool
is_call None caller called = false
is_call (Some call) caller called = nat_eq call.number caller && nat_eq call.bucket called

-- the calls of instructions from place p on, in their order
abbrev pub calls_from : ℕ → List Stamps → ℕ → List Instr → List Member
calls_from scopes marks p [] = []
calls_from scopes marks p (i ∷ is) =
    with_member (call_number scopes (slice_index_or marks p Nobody) i) (calls_from scopes marks (p + 1) is)

abbrev pub calls_in : Tables → List Instr → List Stamps → List Member
calls_in tables code marks = calls_from (length tables.scopes) marks 0 code

-- the instruction at a place is a call of one by another
pub record IsCallPlace (tables : Tables) (code : List Instr) (marks : List Stamps) (caller called k : ℕ) : Type 0 where
  pub instruction : Instr
  pub instruction_is : slice_get code k ≡ Some instruction
  pub call : call_number (length tables.scopes) (slice_index_or marks k Nobody) instruction
      ≡ Some (record { bucket = called; number = caller })

-- the callers of each owner
abbrev pub AreCallers : Tables → List Instr → List Stamps → List (List ℕ) → Type 0
AreCallers tables code marks callers = AreBuckets (owner_count tables) (calls_in tables code marks) callers

-- numbers of owners, callers first
pub record IsInOrder (tables : Tables) (code : List Instr) (marks : List Stamps) (listed : List ℕ) : Type 0 where
  pub callers : List (List ℕ)
  pub callers_are : AreCallers tables code marks callers
  pub order : IsOrder callers listed

-- a call of one that leads back to its caller
pub record IsRoundCall (tables : Tables) (code : List Instr) (marks : List Stamps) (k : ℕ) : Type 0 where
  pub caller : ℕ
  pub called : ℕ
  pub place : IsCallPlace tables code marks caller called k
  pub callers : List (List ℕ)
  pub callers_are : AreCallers tables code marks callers
  pub back : IsNextOnCycle callers called caller

abbrev pub RoundCause : Tables → List Instr → List Stamps → VerifyRefusal → Type 0
RoundCause tables code marks (refusal.Endless k) = IsRoundCall tables code marks k
RoundCause tables code marks (refusal.BadTable n) = ⊥
RoundCause tables code marks (refusal.BadNumber k) = ⊥
RoundCause tables code marks (refusal.BadShape k) = ⊥
RoundCause tables code marks refusal.Memory = Unit {0}
