use Rattle.std.proofs.Common.{rules, ◌≡◌, ◌∙◌, ◌+◌, ℕ, List, Some, slice_get, sym, ap, arith}
use Rattle.cat_lower.specs.Pieces.{cases_before}
use Rattle.cat_lower.proofs.StartLemmas.{case_start, told_alike}
use Rattle.cat_lower.proofs.counts.case_number.Goals as goal

pub returns : goal.returns
returns c =
    let here = c.args.here.now in
    let n = c.args.enumeration in
    let start = c.in-Some.start.now in
    let read : slice_get here.case_starts.now n ≡ Some start = search rules in
    let told : start ≡ 0 + cases_before n here.decls.now.enumerations =
    case_start 0 n start here.decls.now.enumerations
    (ap (λ (l : List ℕ). slice_get l n) (sym c.tables_are_made.ensures.cases) ∙ read) in
    let sum : c.in_ok-number.number ≡ start + c.args.case = c.in_ok-number.ensures in
    let whole : c.in_ok-number.number ≡ cases_before n here.decls.now.enumerations + c.args.case =
    omega (arith, told, sum) in
    told_alike c.fitting.result c.in_ok-number.number _ whole c.fitting.ensures
