use Rattle.std.proofs.Common.{rules}
use Rattle.cat_parse_expr.proofs.Common.{case_from, Gives, behind_whole}
use Rattle.cat_parse_expr.proofs.steps.tested_case.Goals as goal

pub returns-in_err-case-clause-gives : goal.returns-in_err-case-clause-gives
returns-in_err-case-clause-gives c =
    let read : Gives (behind_whole (case_from c.in_ok-name.name)) c.args.tokens.now c.in_ok-name.at
    c.behind_whole.result =
    c.behind_whole.ensures.gives (case_from c.in_ok-name.name) c.args.tokens.now c.in_ok-name.ensures.gives.2
    c.case_from.ensures in
    search (rules, read)
