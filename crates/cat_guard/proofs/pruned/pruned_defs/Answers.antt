use Rattle.std.proofs.Common.{◌+◌, ◌++◌, ℕ, List, drop, get_or, length, nat_lt, slice_get, sym, subst, refl, arith}
use Rattle.std.proofs.lemmas.List.{drop_more, drop_all}
use Rattle.cat_guard.specs.Judged.{answers_in}
use Rattle.cat_guard.specs.Verdicts.{def_verdict}
use Rattle.cat_guard.specs.inside.Pruned.{DefsStandFor}
use Rattle.cat_guard.proofs.GroupLaws.{all_below}
use Rattle.cat_guard.proofs.LiveLaws.{all_stand, here_named, left_out, put_on, all_left}
use Rattle.cat_guard.proofs.pruned.pruned_defs.Goals as goal

pub loop-number-init : goal.loop-number-init
loop-number-init c =
    subst (λ (left : List ℕ). DefsStandFor c.args.target.now (answers_in c.args.atoms.now c.args.region.now)
    c.args.numbers.now (left ++ c.args.numbers.now)) (sym c.new-left.ensures)
    (all_stand (λ d. nat_lt d (length c.args.target.now.defs))
    (λ answers d. def_verdict answers d (slice_get c.args.target.now.defs d))
    (answers_in c.args.atoms.now c.args.region.now) c.args.numbers.now c.requires.numbers)

pub is_out-requires-clause-number : goal.is_out-requires-clause-number
is_out-requires-clause-number c =
    all_below (length c.args.target.now.defs) c.args.numbers.now c.requires.numbers c.loop-number.number-index 0
    c.loop-number-test.true

pub loop-number-preserved-then-is_out : goal.loop-number-preserved-then-is_out
loop-number-preserved-then-is_out c =
    left_out (λ d. nat_lt d (length c.args.target.now.defs))
    (λ answers d. def_verdict answers d (slice_get c.args.target.now.defs d))
    (answers_in c.args.atoms.now c.args.region.now) c.args.numbers.now c.loop-number.left c.loop-number.number-index
    (get_or c.args.numbers.now c.loop-number.number-index 0)
    (drop_more c.args.numbers.now c.loop-number.number-index 0 c.loop-number-test.true) c.loop-number.invariant
    (c.is_out.ensures c.if-is_out.true)

pub loop-number-preserved : goal.loop-number-preserved
loop-number-preserved c =
    let numbers = c.args.numbers.now in
    let i = c.loop-number.number-index in
    let here = drop_more numbers i 0 c.loop-number-test.true in
    subst (λ (left : List ℕ). DefsStandFor c.args.target.now (answers_in c.args.atoms.now c.args.region.now) numbers
    (left ++ drop (i + 1) numbers)) (sym c.in_ok-push.ensures.ok)
    (put_on (λ d. nat_lt d (length c.args.target.now.defs))
    (λ answers d. def_verdict answers d (slice_get c.args.target.now.defs d))
    (answers_in c.args.atoms.now c.args.region.now) numbers c.loop-number.left i (get_or numbers i 0) here
    c.loop-number.invariant (get_or numbers i 0)
    (here_named (λ d. nat_lt d (length c.args.target.now.defs))
    (λ answers d. def_verdict answers d (slice_get c.args.target.now.defs d))
    (answers_in c.args.atoms.now c.args.region.now) numbers c.loop-number.left i (get_or numbers i 0) here
    c.loop-number.invariant) (λ more kept. refl))

pub returns : goal.returns
returns c =
    all_left (λ d. nat_lt d (length c.args.target.now.defs))
    (λ answers d. def_verdict answers d (slice_get c.args.target.now.defs d))
    (answers_in c.args.atoms.now c.args.region.now) c.args.numbers.now c.loop-number.left c.loop-number.number-index
    (drop_all c.loop-number.number-index c.args.numbers.now (omega (arith, c.loop-number-test.false)))
    c.loop-number.invariant
