use Rattle.std.proofs.Common.{rules, ◌≡◌, ◌∙◌, ◌<◌, ℕ, Bool, true, false, List, [], ◌∷◌, length, set, get_or, replicate}
use Rattle.std.proofs.Common.{arith, sym, subst}
use Rattle.std.proofs.lemmas.List.{get_or-replicate, length-replicate, get_or-set_same, get_or-set_other, get_or_past}
use Rattle.std.proofs.lemmas.List.{get_or_default}
use Rattle.cat_order.proofs.Trails.{IsOnCycle-of_trail}
use Rattle.std.proofs.lemmas.Bool.{cases_eq, cases_lt}
use Rattle.std.proofs.lemmas.Bool.Decides.{nat_tests}
use Rattle.std.proofs.Math.Logic.{⊎_elim}
use Rattle.cat_order.specs.Order.{dependencies_of, is_listed}
use Rattle.cat_order.proofs.Counts.{within_of_positive}
use Rattle.cat_order.proofs.cycle.item_on_cycle.Goals as goal

-- no item is passed at first
none_passed : (passed : List Bool) (count item : ℕ) → passed ≡ replicate count false → get_or passed item false ≡ false
none_passed passed count item all = rw all (⊎_elim
    (λ within. get_or-replicate count item false false within)
    (λ past. get_or_past (replicate count false) item false (omega (arith, length-replicate count false)))
    (cases_lt item count))

-- an item more is passed, and stands in the trail
one_more_passed : (passed : List Bool) (trail : List ℕ) (at item : ℕ) → at < length passed → get_or passed item false
    ≡ is_listed trail item → get_or (set passed at true) item false ≡ is_listed (at ∷ trail) item
one_more_passed passed trail at item within same = ⊎_elim
    (λ here. subst (λ (n : ℕ). get_or (set passed at true) n false ≡ is_listed (at ∷ trail) n) here
    (get_or-set_same passed at true false within ∙ grind (arith, nat_tests)))
    (λ other. get_or-set_other passed at item true false (λ e. other (sym e)) ∙ (same ∙ grind (arith, nat_tests)))
    (cases_eq at item)

pub loop-passed-init : goal.loop-passed-init
loop-passed-init c = record {
  one_each = search rules;
  unmet = search rules;
  trail = ([], (tt, λ item. none_passed c.in_ok-passed.passed.items (length c.args.deps.now) item (search rules)));
}

pub loop-passed-preserved : goal.loop-passed-preserved
loop-passed-preserved c =
    let within : c.loop-passed.item < length c.args.deps.now =
    omega (
      arith,
      within_of_positive c.args.unmet.now c.loop-passed.item c.loop-passed.invariant.unmet,
      c.requires.one_each,
    ) in
    let dependencies : c.as_slice.result.now ≡ dependencies_of c.args.deps.now c.loop-passed.item = c.as_slice.ensures
    ∙ (c.index-deps-item.is ∙ get_or_default c.args.deps.now c.loop-passed.item c.index-deps-item.result [] within) in
    record {
      one_each = search rules;
      unmet = search rules;
      trail = (
        c.loop-passed.item ∷ c.loop-passed.invariant.trail.0,
        (
          ((rw dependencies at c.first_waiting-item.ensures.among), c.loop-passed.invariant.trail.1.0),
          λ item. one_more_passed c.loop-passed.passed.items c.loop-passed.invariant.trail.0 c.loop-passed.item item
              (omega (arith, c.loop-passed.invariant.one_each)) (c.loop-passed.invariant.trail.1.1 item),
        ),
      );
    }

pub returns : goal.returns
returns c =
    let within : c.loop-passed.item < length c.loop-passed.passed.items =
    omega (
      arith,
      within_of_positive c.args.unmet.now c.loop-passed.item c.loop-passed.invariant.unmet,
      c.requires.one_each,
      c.loop-passed.invariant.one_each,
    ) in
    let again : get_or c.loop-passed.passed.items c.loop-passed.item false ≡ true =
    sym (get_or_default c.loop-passed.passed.items c.loop-passed.item c.index.result.now false within)
    ∙ (sym c.index.ensures ∙ c.loop-passed-test.false) in
    IsOnCycle-of_trail c.args.deps.now c.loop-passed.invariant.trail.0 c.loop-passed.item
    c.loop-passed.invariant.trail.1.0 (sym (c.loop-passed.invariant.trail.1.1 c.loop-passed.item) ∙ again)
