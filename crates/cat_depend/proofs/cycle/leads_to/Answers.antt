use Rattle.std.proofs.Common.{rules, ◌≡◌, [], ℕ, List, subst}
use Rattle.std.proofs.lemmas.List.{get_or_default}
use Rattle.cat_order.specs.Order.{dependencies_of}
use Rattle.cat_depend.specs.CycleWays.{LeadsTo}
use Rattle.cat_depend.proofs.Searching as way
use Rattle.cat_depend.proofs.Searching.{IsUnderWay}
use Rattle.cat_depend.proofs.cycle.leads_to.Goals as goal

pub returns-then-number-goal : goal.returns-then-number-goal
returns-then-number-goal c =
    subst (λ (n : ℕ). LeadsTo c.args.deps.now c.args.from n) c.if-number-goal.true
    (way.reached_last c.args.deps.now c.args.goal c.args.from c.args.marks.now c.loop-number.marks
    c.pop.new.self.items c.in-Some.number (subst (λ (ns : List ℕ). IsUnderWay c.args.deps.now c.args.goal c.args.from
    c.args.marks.now c.loop-number.marks ns) c.in-Some.ensures.items c.loop-number.invariant))

pub loop-number-preserved-then-marks-number : goal.loop-number-preserved-then-marks-number
loop-number-preserved-then-marks-number c =
    way.passed_over c.args.deps.now c.args.goal c.args.from c.args.marks.now c.loop-number.marks
    c.pop.new.self.items c.in-Some.number (subst (λ (ns : List ℕ). IsUnderWay c.args.deps.now c.args.goal c.args.from
    c.args.marks.now c.loop-number.marks ns) c.in-Some.ensures.items c.loop-number.invariant) (search rules)

pub loop-number-smaller : goal.loop-number-smaller
loop-number-smaller c =
    let under = subst (λ (ns : List ℕ). IsUnderWay c.args.deps.now c.args.goal c.args.from
    c.args.marks.now c.loop-number.marks ns) c.in-Some.ensures.items c.loop-number.invariant in
    let next : c.as_slice.result.now ≡ dependencies_of c.args.deps.now c.in-Some.number = search
    (rules, get_or_default) in
    rw (c.in_ok-extend_from_slice.ensures.items, next, c.in-Some.ensures.items)
    (way.fewer c.args.deps.now c.args.goal c.args.from c.args.marks.now c.loop-number.marks
    c.pop.new.self.items c.in-Some.number under (search rules))

pub loop-number-preserved : goal.loop-number-preserved
loop-number-preserved c =
    let under = subst (λ (ns : List ℕ). IsUnderWay c.args.deps.now c.args.goal c.args.from
    c.args.marks.now c.loop-number.marks ns) c.in-Some.ensures.items c.loop-number.invariant in
    let next : c.as_slice.result.now ≡ dependencies_of c.args.deps.now c.in-Some.number = search
    (rules, get_or_default) in
    rw (c.in_ok-extend_from_slice.ensures.items, next)
    (way.marks_on c.args.deps.now c.args.goal c.args.from c.args.marks.now c.loop-number.marks
    c.pop.new.self.items c.in-Some.number under c.if-number-goal.false
    (c.requires.items c.in-Some.number [] (way.last_within c.args.deps.now c.args.goal c.args.from c.args.marks.now
    c.loop-number.marks c.pop.new.self.items c.in-Some.number under)))
