-- Code without functions calls none.
use Rattle.std.proofs.Common.{◌≡◌, ◌<◌, true, List, length, arith}
use Rattle.std.proofs.lemmas.Bool.Decides.{nat_tests}
use Rattle.std.specs.Prelude.{nat_lt}
use Rattle.cat_value.proofs.Exported.{list_all_at}
use Rattle.cat_code.specs.declared.instr.Instr.{Instr}
use Rattle.cat_code.specs.declared.instr.Instr.TheVariants as instr
use Rattle.cat_code.specs.declared.code.Tables.{Tables}
use Rattle.cat_code.specs.Jumps.{is_within}
use Rattle.cat_verify_tables.specs.declared.places.FunctionPlace.{FunctionPlace}
use Rattle.cat_verify.specs.inside.Orderly.{IsOrderly, AreCallsHome}

pub none_called : (tables : Tables) (code : List Instr) (functions : List FunctionPlace)
    → IsOrderly tables code functions → length tables.functions ≡ 0 → AreCallsHome tables code
none_called tables code functions orderly none = λ p f count owner comes at.
    let inside : nat_lt f (length tables.functions) ≡ true =
    list_all_at (is_within tables (length code)) code p (instr.Call f count) orderly.good.numbers at in
    let below : f < length tables.functions = grind (arith, nat_tests, inside) in
    absurd (omega (arith, below, none))
