use Rattle.std.proofs.Common.{rules}
use Rattle.cat_verify.proofs.StepLemmas.{within_as}
use Rattle.cat_verify.proofs.calls.calls_in.Goals as goal

pub call_number-requires-clause-within : goal.call_number-requires-clause-within
call_number-requires-clause-within c =
    within_as c.args.tables.now c.args.code.now _ c.loop-at.at _ c.requires.good (search rules) c.loop-at-test.true
