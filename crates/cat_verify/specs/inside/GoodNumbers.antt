-- Numbers of code that name what is there, by the rules of listings, and why others are refused.
use Rattle.std.specs.Prelude.{◌≡◌, ◌≤◌, ◌⊎◌, ℕ, nat_lt, IsTrue, List, length}
use Rattle.std.specs.List.{list_all}
use Rattle.cat_scope.specs.Names.{IsOneOf}
use Rattle.cat_code.specs.declared.instr.Instr.{Instr}
use Rattle.cat_code.specs.declared.code.Tables.{Tables}
use Rattle.cat_code.specs.Jumps.{is_within}
use Rattle.cat_code.specs.Valid.{keep_rules, entries_of, places_entered}
use Rattle.cat_verify.specs.declared.refusal.VerifyRefusal.{VerifyRefusal}
use Rattle.cat_verify.specs.declared.refusal.VerifyRefusal.TheVariants as refusal
use Rattle.cat_verify.specs.WrongCode.{NamesWrongly, BeginsOutside}

-- all are such
pub record HasGoodNumbers (tables : Tables) (code : List Instr) : Type 0 where
  pub entries : IsTrue (list_all (λ place. nat_lt place (length code)) (entries_of tables))
  pub numbers : IsTrue (list_all (is_within tables (length code)) code)
  pub rules : IsTrue (keep_rules tables code (places_entered tables code) 0 code)

-- an instruction names or an entry is what isn't there
abbrev pub NumbersCause : Tables → List Instr → VerifyRefusal → Type 0
NumbersCause tables code (refusal.BadNumber k) = NamesWrongly tables code k ⊎ BeginsOutside tables code k
NumbersCause tables code (refusal.BadTable n) = ⊥
NumbersCause tables code (refusal.Endless k) = ⊥
NumbersCause tables code (refusal.BadShape k) = ⊥
NumbersCause tables code refusal.Memory = Unit {0}

-- the number of some place behind the last one of so many
abbrev pub EntriesCause : List ℕ → ℕ → VerifyRefusal → Type 0
EntriesCause entries count (refusal.BadNumber k) = (k ≡ count) × (entry : ℕ) × IsOneOf entry entries × (count ≤ entry)
EntriesCause entries count (refusal.BadTable n) = ⊥
EntriesCause entries count (refusal.Endless k) = ⊥
EntriesCause entries count (refusal.BadShape k) = ⊥
EntriesCause entries count refusal.Memory = ⊥
