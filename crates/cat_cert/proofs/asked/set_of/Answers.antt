use Rattle.std.specs.Ordering.{nat_cmp}
use Rattle.std.specs.BTreeSet.{contains}
use Rattle.cat_cert.proofs.AtomReadLemmas.{set_more}
use Rattle.cat_cert.proofs.asked.set_of.Goals as goal

pub loop-number-preserved : goal.loop-number-preserved
loop-number-preserved c = λ a.
    set_more c.args.numbers.now c.loop-number.number-index a (contains nat_cmp c.loop-number.set a)
    (contains nat_cmp c.insert.new.self a) c.loop-number-test.true (c.in_ok-insert.ensures.updates.0 a)
    (c.loop-number.invariant a)
