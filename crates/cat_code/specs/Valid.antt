-- Valid code: its numbers are those of entries, it keeps the rules that listings keep, and it is shaped and tame.
use Rattle.std.specs.Prelude.{◌≡◌, ℕ, ◌+◌, ◌-◌, nat_eq, nat_le, nat_lt, ◌&&◌, Bool, true, false, not, IsTrue, List, []}
use Rattle.std.specs.Prelude.{◌∷◌, ◌++◌, length, Option, Some, None, is_some, slice_get}
use Rattle.std.specs.List.{list_all}
use Rattle.cat_value.specs.declared.decls.Decls.{Decls}
use Rattle.cat_value.specs.declared.value.Value.{Value}
use Rattle.cat_value.specs.declared.value.Value.TheOpen.{Value-F}
use Rattle.cat_value.specs.declared.value.Value.TheViews.{out-Value}
use Rattle.cat_value.specs.Declarations.{is_sound}
use Rattle.cat_value.specs.Entries.{content_of, some_passes}
use Rattle.cat_value.specs.Typing.{has_type}
use Rattle.cat_scope.specs.Names.{has_none}
use Rattle.cat_code.specs.declared.instr.Instr.{Instr}
use Rattle.cat_code.specs.declared.instr.Instr.TheVariants as instr
use Rattle.cat_code.specs.declared.code.Constant.{Constant}
use Rattle.cat_code.specs.declared.code.Tables.{Tables}
use Rattle.cat_code.specs.Places.{case_places, function_places, target_form}
use Rattle.cat_code.specs.Jumps.{jumps_in, is_within}
use Rattle.cat_code.specs.Shaped.{Shapes, IsShapedBy}
use Rattle.cat_code.specs.Tame.{IsTame}

-- a constant's type may stand in a declaration, and its value has that type
abbrev pub constant_is_sound : Decls → Constant → Bool
constant_is_sound ds c = is_sound ds.structures ds.enumerations c.ty && has_type ds c.value c.ty

-- whether a value is a list without elements
abbrev pub is_empty_list : Value-F Value → Bool
is_empty_list (Value-F.List vs) = has_none vs
is_empty_list _ = false

-- whether a constant is an empty list
abbrev pub is_empty_constant : Option Constant → Bool
is_empty_constant None = false
is_empty_constant (Some c) = is_empty_list (out-Value c.value)

-- whether an instruction begins a loop
abbrev pub is_loop : Option Instr → Bool
is_loop (Some instr.Iter) = true
is_loop (Some (instr.IterList k)) = true
is_loop _ = false

-- whether a case has content
abbrev pub has_content : Tables → ℕ → Bool
has_content tables c =
    some_passes (λ place. some_passes is_some (content_of tables.decls place.enumeration place.case))
    (slice_get tables.cases c)

-- whether four instructions push a local name that is found to be a case with content
abbrev pub are_tested : Tables → Option Instr → Option Instr → Option Instr → Option Instr → Bool
are_tested tables (Some (instr.Local i)) (Some (instr.IsCase c)) (Some (instr.JumpFalse t)) (Some (instr.Local j)) =
    nat_eq i j && has_content tables c
are_tested tables _ _ _ _ = false

-- whether no place is one of the last four of the five instructions that end at place p
abbrev pub are_apart : ℕ → List ℕ → Bool
are_apart p places = list_all (λ t. not (nat_le p (t + 3) && nat_le t p)) places

-- whether an instruction at place p keeps the rules of listings, where these places are jumped to or entered
abbrev pub keeps_rules : Tables → List Instr → List ℕ → ℕ → Instr → Bool
keeps_rules tables code places p (instr.List n) = nat_le 1 n
keeps_rules tables code places p (instr.IterList k) = is_empty_constant (slice_get tables.constants k)
keeps_rules tables code places p (instr.Next t) = nat_le 1 p && is_loop (slice_get code (p - 1))
keeps_rules tables code places p instr.Content =
    nat_le 4 p && are_apart p places
    && are_tested tables (slice_get code (p - 4)) (slice_get code (p - 3)) (slice_get code (p - 2))
    (slice_get code (p - 1))
keeps_rules tables code places p _ = true

-- whether the instructions from place p on keep them
abbrev pub keep_rules : Tables → List Instr → List ℕ → ℕ → List Instr → Bool
keep_rules tables code places p [] = true
keep_rules tables code places p (i ∷ is) =
    keeps_rules tables code places p i && keep_rules tables code places (p + 1) is

-- the places at which scopes and functions begin
abbrev pub entries_of : Tables → List ℕ
entries_of tables = tables.scopes ++ tables.functions

-- the places that are jumped to or entered
abbrev pub places_entered : Tables → List Instr → List ℕ
places_entered tables code = jumps_in code ++ entries_of tables

-- valid code, by its shapes
pub record IsValidBy (tables : Tables) (code : List Instr) (shapes : Shapes) : Type 0 where
  pub cases : tables.cases ≡ case_places 0 tables.decls.enumerations
  pub functions : length tables.functions ≡ length (function_places tables.decls)
  pub targets : IsTrue (list_all (λ entry. is_some (target_form tables.decls entry.target)) tables.targets)
  pub constants : IsTrue (list_all (constant_is_sound tables.decls) tables.constants)
  pub entries : IsTrue (list_all (λ place. nat_lt place (length code)) (entries_of tables))
  pub numbers : IsTrue (list_all (is_within tables (length code)) code)
  pub rules : IsTrue (keep_rules tables code (places_entered tables code) 0 code)
  pub shaped : IsShapedBy tables code shapes
  pub tame : IsTame code shapes

-- valid and tame code
abbrev pub IsValid : Tables → List Instr → Type 0
IsValid tables code = (shapes : Shapes) × IsValidBy tables code shapes
