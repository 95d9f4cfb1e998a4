-- What is asked of code but for its shapes, its owners and their calls.
use Rattle.std.specs.Prelude.{◌≡◌, ◌<◌, nat_lt, IsTrue, List, length, is_some}
use Rattle.std.specs.List.{list_all}
use Rattle.cat_pos.specs.declared.limits.TheConstants.{ENTRIES_BOUND}
use Rattle.cat_code.specs.declared.instr.Instr.{Instr}
use Rattle.cat_code.specs.declared.code.Tables.{Tables}
use Rattle.cat_code.specs.Places.{case_places, function_places, target_form}
use Rattle.cat_code.specs.Jumps.{is_within}
use Rattle.cat_code.specs.Tame.{AreForward}
use Rattle.cat_code.specs.Valid.{constant_is_sound, keep_rules, entries_of, places_entered}

-- its tables and numbers are in order, and its jumps go forward but to a `next`
pub record IsSettled (tables : Tables) (code : List Instr) : Type 0 where
  pub few : length code < ENTRIES_BOUND
  pub cases : tables.cases ≡ case_places 0 tables.decls.enumerations
  pub scopes : length tables.scopes ≡ length tables.decls.scopes
  pub functions : length tables.functions ≡ length (function_places tables.decls)
  pub targets : IsTrue (list_all (λ entry. is_some (target_form tables.decls entry.target)) tables.targets)
  pub constants : IsTrue (list_all (constant_is_sound tables.decls) tables.constants)
  pub entries : IsTrue (list_all (λ place. nat_lt place (length code)) (entries_of tables))
  pub numbers : IsTrue (list_all (is_within tables (length code)) code)
  pub rules : IsTrue (keep_rules tables code (places_entered tables code) 0 code)
  pub forward : AreForward code 0 code
