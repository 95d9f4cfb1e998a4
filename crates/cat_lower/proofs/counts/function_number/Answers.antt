use Rattle.std.proofs.Common.{rules, ◌≡◌, ◌∙◌, ◌+◌, ℕ, List, Some, slice_get, length, take, sym, ap, arith}
use Rattle.cat_code.specs.Places.{functions_in}
use Rattle.cat_lower.proofs.StartLemmas.{function_start, told_alike}
use Rattle.cat_lower.proofs.counts.function_number.Goals as goal

pub returns : goal.returns
returns c =
    let here = c.args.here.now in
    let n = c.args.item in
    let start = c.in-Some.start.now in
    let read : slice_get here.function_starts.now n ≡ Some start = search rules in
    let told : start ≡ 0 + length (functions_in 0 0 (take n here.items.now)) =
    function_start 0 0 n start here.items.now
    (ap (λ (l : List ℕ). slice_get l n) (sym c.tables_are_made.ensures.functions) ∙ read) in
    let sum : c.in_ok-number.number ≡ here.functions + start = c.in_ok-number.ensures in
    let whole : c.in_ok-number.number ≡ here.functions + length (functions_in 0 0 (take n here.items.now)) =
    omega (arith, told, sum) in
    told_alike c.fitting.result c.in_ok-number.number _ whole c.fitting.ensures
