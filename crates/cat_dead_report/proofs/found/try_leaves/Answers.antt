use Rattle.std.proofs.Common.{◌≡◌, ◌≤◌, ◌∙◌, true, IsTrue, IfSome, length, sym, subst, arith}
use Rattle.std.proofs.lemmas.List.{take_all}
use Rattle.std.proofs.lemmas.Option.{slice_get_within}
use Rattle.cat_scope.specs.Names.{AllHave}
use Rattle.cat_search.specs.Ways.{ask_below}
use Rattle.cat_dead_report.specs.declared.found.Known.{Known}
use Rattle.cat_dead_report.specs.RunLines.{weight_of}
use Rattle.cat_dead_report.specs.inside.Knowing.{default_weight}
use Rattle.cat_dead_report.specs.inside.WonLeaves.{IsToldIf}
use Rattle.cat_dead_report.proofs.TryingLemmas.{IsTrying, item, at_item, starts, order, next_leaf, passes, none_wins}
use Rattle.cat_dead_report.proofs.TryingLemmas.{final_there, known_there, reached, goes_over, won_there}
use Rattle.cat_dead_report.proofs.TryingLemmas.{goes_on}
use Rattle.cat_dead_report.proofs.found.try_leaves.Goals as goal

pub loop-leaf-init : goal.loop-leaf-init
loop-leaf-init c =
    let here = c.args.here.now in
    subst (λ way. IsTrying here.program.now here.table.now here.target.now c.args.nodes.now c.args.derived
    c.args.numbers.now c.args.leaves.now c.args.known.now.items 0 way 0 c.args.known.now.items) (sym c.new-way.ensures)
    (starts here.program.now here.table.now here.target.now c.args.nodes.now c.args.derived c.args.numbers.now
    c.args.leaves.now c.args.known.now.items c.requires.leaves c.requires.known)

-- the next leaf
pub loop-leaf-preserved-in_default : goal.loop-leaf-preserved-in_default
loop-leaf-preserved-in_default c =
    let here = c.args.here.now in
    let l = c.loop-leaf in
    let leaves = c.args.leaves.now in
    let x = item leaves l.leaf-index in
    let at = at_item leaves l.leaf-index (omega (arith, c.loop-leaf-test.true)) in
    passes here.program.now here.table.now here.target.now c.args.nodes.now c.args.derived c.args.numbers.now leaves
    c.args.known.now.items l.at l.way l.leaf-index l.known.items l.invariant x at
    (none_wins here.program.now here.table.now here.target.now c.args.nodes.now c.args.derived c.args.numbers.now leaves
    c.args.known.now.items l.at l.way l.leaf-index l.known.items l.invariant x at
    (sym c.won_by.ensures ∙ c.in_default.is))

pub loop-leaf-preserved-then-is_final_at : goal.loop-leaf-preserved-then-is_final_at
loop-leaf-preserved-then-is_final_at c =
    let here = c.args.here.now in
    let l = c.loop-leaf in
    let leaves = c.args.leaves.now in
    let x = item leaves l.leaf-index in
    let at = at_item leaves l.leaf-index (omega (arith, c.loop-leaf-test.true)) in
    passes here.program.now here.table.now here.target.now c.args.nodes.now c.args.derived c.args.numbers.now leaves
    c.args.known.now.items l.at l.way l.leaf-index l.known.items l.invariant x at
    (final_there here.program.now here.table.now here.target.now c.args.nodes.now c.args.derived c.args.numbers.now
    leaves c.args.known.now.items l.at l.way l.leaf-index l.known.items l.invariant x at c.in-Some.won
    (sym c.won_by.ensures ∙ c.in-Some.is) (sym c.is_final_at.ensures ∙ c.if-is_final_at.true))

pub go_to-requires-clause-order : goal.go_to-requires-clause-order
go_to-requires-clause-order c =
    let here = c.args.here.now in
    let l = c.loop-leaf in
    let leaves = c.args.leaves.now in
    let x = item leaves l.leaf-index in
    let at = at_item leaves l.leaf-index (omega (arith, c.loop-leaf-test.true)) in
    order here.program.now here.table.now here.target.now c.args.nodes.now c.args.derived c.args.numbers.now leaves
    c.args.known.now.items l.at l.way l.leaf-index l.known.items l.invariant x at

pub go_to-requires-clause-within : goal.go_to-requires-clause-within
go_to-requires-clause-within c =
    let here = c.args.here.now in
    let l = c.loop-leaf in
    let leaves = c.args.leaves.now in
    let x = item leaves l.leaf-index in
    let at = at_item leaves l.leaf-index (omega (arith, c.loop-leaf-test.true)) in
    let within = (next_leaf here.program.now here.table.now here.target.now c.args.nodes.now c.args.derived
    c.args.numbers.now leaves c.args.known.now.items l.at l.way l.leaf-index l.known.items l.invariant x at).within in
    omega (arith, within)

pub loop-leaf-preserved-then-not-is_in_pass : goal.loop-leaf-preserved-then-not-is_in_pass
loop-leaf-preserved-then-not-is_in_pass c =
    let here = c.args.here.now in
    let l = c.loop-leaf in
    let leaves = c.args.leaves.now in
    let x = item leaves l.leaf-index in
    let at = at_item leaves l.leaf-index (omega (arith, c.loop-leaf-test.true)) in
    goes_over here.program.now here.table.now here.target.now c.args.nodes.now c.args.derived c.args.numbers.now leaves
    c.args.known.now.items l.at l.way l.leaf-index l.known.items l.invariant x at c.in-Some.won
    (sym c.won_by.ensures ∙ c.in-Some.is)
    c.go_to.new.way c.in_ok-go_to.ensures (c.is_in_pass.ensures c.if-not-is_in_pass.true)

pub loop-leaf-preserved : goal.loop-leaf-preserved
loop-leaf-preserved c =
    let here = c.args.here.now in
    let l = c.loop-leaf in
    let leaves = c.args.leaves.now in
    let x = item leaves l.leaf-index in
    let at = at_item leaves l.leaf-index (omega (arith, c.loop-leaf-test.true)) in
    goes_on here.program.now here.table.now here.target.now c.args.nodes.now c.args.derived c.args.numbers.now leaves
    c.args.known.now.items l.at l.way l.leaf-index l.known.items l.invariant x at c.in-Some.won
    (sym c.won_by.ensures ∙ c.in-Some.is)
    c.go_to.new.way c.in_ok-go_to.ensures c.try_place.new.known.items c.in_ok-try_place.ensures

-- it is tried
pub try_place-requires-clause-asked : goal.try_place-requires-clause-asked
try_place-requires-clause-asked c =
    let here = c.args.here.now in
    let l = c.loop-leaf in
    let leaves = c.args.leaves.now in
    let x = item leaves l.leaf-index in
    let at = at_item leaves l.leaf-index (omega (arith, c.loop-leaf-test.true)) in
    let there = reached here.program.now here.table.now here.target.now c.args.nodes.now c.args.derived
    c.args.numbers.now leaves c.args.known.now.items l.at l.way l.leaf-index l.known.items l.invariant x at
    c.in-Some.won (sym c.won_by.ensures ∙ c.in-Some.is) c.go_to.new.way c.in_ok-go_to.ensures in
    subst (λ way. IsTrue (ask_below (length here.table.now.atoms) way)) (sym there) (c.requires.asked x.node)

pub try_place-requires-clause-won : goal.try_place-requires-clause-won
try_place-requires-clause-won c =
    let here = c.args.here.now in
    let l = c.loop-leaf in
    let leaves = c.args.leaves.now in
    let x = item leaves l.leaf-index in
    let at = at_item leaves l.leaf-index (omega (arith, c.loop-leaf-test.true)) in
    won_there here.program.now here.table.now here.target.now c.args.nodes.now c.args.derived c.args.numbers.now
    leaves c.args.known.now.items l.at l.way l.leaf-index l.known.items l.invariant x at c.in-Some.won
    (sym c.won_by.ensures ∙ c.in-Some.is)
    c.go_to.new.way c.in_ok-go_to.ensures

pub try_place-requires-clause-place : goal.try_place-requires-clause-place
try_place-requires-clause-place c =
    let here = c.args.here.now in
    let l = c.loop-leaf in
    let leaves = c.args.leaves.now in
    let x = item leaves l.leaf-index in
    let at = at_item leaves l.leaf-index (omega (arith, c.loop-leaf-test.true)) in
    let known = known_there here.program.now here.table.now here.target.now c.args.nodes.now c.args.derived
    c.args.numbers.now leaves c.args.known.now.items l.at l.way l.leaf-index l.known.items l.invariant x at
    c.in-Some.won (sym c.won_by.ensures ∙ c.in-Some.is) in
    slice_get_within l.known.items c.in-Some.won.place known.there known.is

pub try_place-requires-clause-default : goal.try_place-requires-clause-default
try_place-requires-clause-default c =
    let here = c.args.here.now in
    let l = c.loop-leaf in
    let leaves = c.args.leaves.now in
    let x = item leaves l.leaf-index in
    let at = at_item leaves l.leaf-index (omega (arith, c.loop-leaf-test.true)) in
    let known = known_there here.program.now here.table.now here.target.now c.args.nodes.now c.args.derived
    c.args.numbers.now leaves c.args.known.now.items l.at l.way l.leaf-index l.known.items l.invariant x at
    c.in-Some.won (sym c.won_by.ensures ∙ c.in-Some.is) in
    subst (λ o. IfSome o (λ (k : Known). k.on_default ≡ true
    → default_weight here.program.now here.table.now here.target.now c.in-Some.won.pos ≤ weight_of k.line))
    (sym known.is) known.known_of.default

-- all are tried
pub returns-clause-told : goal.returns-clause-told
returns-clause-told c =
    let here = c.args.here.now in
    let l = c.loop-leaf in
    let leaves = c.args.leaves.now in
    subst (AllHave (IsToldIf here.program.now here.table.now here.target.now c.args.nodes.now c.args.derived
    c.args.numbers.now l.known.items)) (take_all l.leaf-index leaves (omega (arith, c.loop-leaf-test.false)))
    l.invariant.told
