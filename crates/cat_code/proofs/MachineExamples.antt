-- Worked examples of the machine.
use Rattle.std.proofs.Common.{◌≡◌, ℕ, pos, false, List, [], ◌∷◌, Option, Some, None, Ok, rules}
use Rattle.cat_pos.specs.declared.pos.Pos.{Pos}
use Rattle.cat_value.specs.declared.ty.Ty.TheVariants as ty
use Rattle.cat_value.specs.declared.value.Value.TheVariants as flat
use Rattle.cat_value.specs.declared.value.Value.TheViews as value
use Rattle.cat_value.specs.declared.declaration.Kind.TheVariants as kind
use Rattle.cat_value.specs.declared.declaration.ItemDecl.{ItemDecl}
use Rattle.cat_code.specs.declared.instr.Instr.{Instr}
use Rattle.cat_code.specs.declared.instr.Instr.TheVariants as instr
use Rattle.cat_code.specs.declared.code.Tables.{Tables}
use Rattle.cat_code.specs.States.{started}
use Rattle.cat_code.specs.Runs.{Whole, within}
use Rattle.cat_value.specs.declared.decls.Decls.{Decls}
use Rattle.cat_scope.proofs.Samples.{at, variable, item}

-- a scope with the items `age` and `price`, a listing of which is read in docs/MACHINE.md
abbrev age : ItemDecl
age = item kind.Input (at 3 9)

abbrev price : ItemDecl
price = record { name = []; pos = at 4 10; kind = kind.Output; ty = ty.Money; condition = false; params = [] }

-- tables over declarations of that scope
abbrev fare_tables : Decls → Tables
fare_tables decls = record {
  decls = decls;
  cases = [];
  scopes = 0 ∷ [];
  targets = record { target = variable 0 1; pos = at 4 10 } ∷ [];
  definitions = at 6 14 ∷ at 7 18 ∷ [];
  functions = [];
  positions = at 7 55 ∷ [];
  constants =
      record { ty = ty.Integer; value = flat.Integer (pos 6) } ∷ record { ty = ty.Money; value = flat.Money (pos 0) }
      ∷ record { ty = ty.Money; value = flat.Money (pos 1000) } ∷ [];
}

abbrev fare_code : List Instr
fare_code =
    instr.Begin 0 ∷ instr.Begin 0 ∷ instr.Slot 0 ∷ instr.Const 0 ∷ instr.Op 30 0 0 ∷ instr.JumpFalse 8 ∷ instr.Const 1
    ∷ instr.Hold 1 ∷ instr.Check 0 ∷ instr.Held 13 ∷ instr.Const 2 ∷ instr.Hold 0 ∷ instr.Check 0 ∷ instr.Merge
    ∷ instr.Check 0 ∷ instr.Take 17 ∷ instr.Jump 18 ∷ instr.NoValue 0 ∷ instr.Store 1 ∷ instr.Slot 1 ∷ instr.Pack 1
    ∷ instr.Return ∷ []

-- what the fare comes to within some steps
abbrev fare : Decls → ℕ → ℕ → Option Whole
fare decls steps years =
    within (fare_tables decls) fare_code steps (started 0 (Some (flat.Integer (pos years)) ∷ None ∷ []))

-- a price, by the definition at a line and a column
abbrev decided : ℕ → Pos → Whole
decided cents by = record {
  log = record { target = variable 0 1; by = Some by } ∷ [];
  end = Ok (flat.Money (pos cents) ∷ []);
}

-- declarations of that scope alone
abbrev AreOfFare : Decls → Type 0
AreOfFare decls = decls.scopes ≡ record { name = []; items = age ∷ price ∷ [] } ∷ []

a_child_goes_free : (decls : Decls) → AreOfFare decls → fare decls 18 4 ≡ Some (decided 0 (at 7 18))
a_child_goes_free decls are = search (rules, value.the_lemmas, are)

a_child_goes_free_in_no_fewer_steps : (decls : Decls) → AreOfFare decls → fare decls 17 4 ≡ None
a_child_goes_free_in_no_fewer_steps decls are = search (rules, value.the_lemmas, are)

others_pay : (decls : Decls) → AreOfFare decls → fare decls 19 40 ≡ Some (decided 1000 (at 6 14))
others_pay decls are = search (rules, value.the_lemmas, are)
