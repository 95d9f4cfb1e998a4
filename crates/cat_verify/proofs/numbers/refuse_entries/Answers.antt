use Rattle.std.proofs.Common.{refl, get_or, arith}
use Rattle.cat_verify.proofs.NumberLemmas.{one_of_at}
use Rattle.cat_verify.proofs.numbers.refuse_entries.Goals as goal

pub returns-then-entry-count-clause-cause : goal.returns-then-entry-count-clause-cause
returns-then-entry-count-clause-cause c =
    let i = c.loop-entry.entry-index in
    let test = c.if-entry-count.true in (
      refl,
      get_or c.args.entries.now i 0,
      one_of_at c.args.entries.now i 0 c.loop-entry-test.true,
      omega (arith, test),
    )
