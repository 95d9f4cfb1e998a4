use Rattle.std.proofs.Common.{rules, ◌≡◌, ℕ, true, false, get_or}
use Rattle.std.specs.Ordering.{nat_cmp}
use Rattle.std.specs.BTreeSet.{contains}
use Rattle.cat_depend.proofs.Once as part
use Rattle.cat_depend.proofs.scopes.once.Goals as goal

pub loop-number-preserved-then-not-branch : goal.loop-number-preserved-then-not-branch
loop-number-preserved-then-not-branch c =
    let there : contains nat_cmp c.loop-number.seen (get_or c.args.numbers.now c.loop-number.number-index 0) ≡ true =
    search rules in
    let same : (n : ℕ) → contains nat_cmp c.insert.new.self n ≡ contains nat_cmp c.loop-number.seen n = search rules in
    part.known (λ n. contains nat_cmp c.loop-number.seen n) c.loop-number.kept c.loop-number.number-index
    c.args.numbers.now c.loop-number-test.true c.loop-number.invariant there
    (λ n. contains nat_cmp c.insert.new.self n) same

pub loop-number-preserved : goal.loop-number-preserved
loop-number-preserved c =
    let out : contains nat_cmp c.loop-number.seen (get_or c.args.numbers.now c.loop-number.number-index 0) ≡ false =
    search rules in
    rw c.in_ok-push.ensures.ok (part.new (λ n. contains nat_cmp c.loop-number.seen n) c.loop-number.kept
    c.loop-number.number-index c.args.numbers.now c.loop-number-test.true c.loop-number.invariant out
    (λ n. contains nat_cmp c.insert.new.self n) c.in_ok-insert.ensures.updates.0)
